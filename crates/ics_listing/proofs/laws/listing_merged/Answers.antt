use Rattle.std.proofs.lemmas.List.Elements.{recursion_from_All}
use Rattle.ics_listing.specs.Entry.{entry_cmp}
use Rattle.ics_listing.specs.Inner.EntryLaws.{entry_total}
use Rattle.ics_listing.specs.Rising.{Rises}
use Rattle.ics_listing.proofs.UnionLemmas.{merged-is}
use Rattle.ics_listing.proofs.laws.listing_merged.Goals as goal

pub returns : goal.returns
returns c lists rise = merged-is entry_cmp entry_total lists (recursion_from_All (Rises entry_cmp) lists rise)
