use Rattle.ics_listing.specs.DayKeys.{on_day_cmp}
use Rattle.ics_series.specs.OnDays.{IsOnDay}
use Rattle.ics_listing.proofs.ListingLemmas.{one-listing}
use Rattle.ics_series.proofs.OnDayLemmas.{on_day_total}
use Rattle.ics_series.proofs.day_laws.one_day_listing.Goals as goal

pub returns : goal.returns
returns c = λ files display w. one-listing on_day_cmp on_day_total (IsOnDay files display w)
