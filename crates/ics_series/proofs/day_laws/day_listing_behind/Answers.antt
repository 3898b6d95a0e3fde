use Rattle.ics_series.proofs.OnDayLemmas.{day-listing-behind}
use Rattle.ics_series.proofs.day_laws.day_listing_behind.Goals as goal

pub returns : goal.returns
returns c = day-listing-behind
