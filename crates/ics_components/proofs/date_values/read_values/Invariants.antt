use Rattle.std.proofs.Common.{map, is_some}
use Rattle.ics_components.specs.DateValues.{value_of}
use Rattle.ics_components.proofs.DateValueLemmas.{IsRead}
use Rattle.ics_components.proofs.date_values.read_values.Given as goal

abbrev pub invariant-values : goal.invariant-values
invariant-values l = IsRead l.zone (map (λ y. value_of l.listing (is_some l.zone) y.now) l.yielded) l.least l.values.items
