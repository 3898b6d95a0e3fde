use Rattle.std.proofs.Common.{◌≡◌, false, take}
use Rattle.std.specs.Prelude.{filter_map}
use Rattle.std.specs.List.{list_any}
use Rattle.ics_components.specs.DateValues.{local_in}
use Rattle.ics_components.proofs.DateValueLemmas.{is_other}
use Rattle.ics_components.proofs.observances.read_locals.Given as goal

abbrev pub invariant-loop-value : goal.invariant-loop-value
invariant-loop-value l = record {
  kept : l.values.items ≡ filter_map local_in (take l.value-index l.value-items);
  none : list_any is_other (take l.value-index l.value-items) ≡ false;
}
