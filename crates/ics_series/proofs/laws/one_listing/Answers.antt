use Rattle.ics_listing.specs.Entry.{entry_cmp}
use Rattle.ics_listing.specs.Inner.EntryLaws.{entry_total}
use Rattle.ics_series.specs.Meets.{IsListed}
use Rattle.ics_listing.proofs.ListingLemmas.{one-listing}
use Rattle.ics_series.proofs.laws.one_listing.Goals as goal

pub returns : goal.returns
returns c = λ files display w. one-listing entry_cmp entry_total (IsListed files display w)
