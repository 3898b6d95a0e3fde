use Rattle.std.proofs.Common.{◌≡◌, ◌<◌, ℕ, ℤ, Some, map, slice_get, take}
use Rattle.ics_zone.specs.ZoneSaid.{zone_said}
use Rattle.khal_list_c.specs.Conversions.{IsInstant, local_in}
use Rattle.khal_list_c.proofs.conversions.convert_instants.Given as goal

abbrev pub invariant-loop-i : goal.invariant-loop-i
invariant-loop-i l = record {
  each : take l.i l.locals ≡ map (local_in (zone_said l.zone)) (take l.i l.instants);
  kind : (n : ℕ) → n < l.i → (a : ℤ) → slice_get l.instants n ≡ Some a → IsInstant a;
}
