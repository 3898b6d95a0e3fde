use Rattle.std.proofs.Common.{◌≡◌, ◌<◌, ℕ, Some, map, slice_get, take}
use Rattle.ics_zone.specs.ZoneSaid.{zone_said}
use Rattle.khal_list_c.specs.Clocks.{instant_in}
use Rattle.khal_list_c.specs.Conversions.{IsLocal}
use Rattle.khal_list_c.proofs.conversions.convert_locals.Given as goal

abbrev pub invariant-loop-i : goal.invariant-loop-i
invariant-loop-i l = record {
  each : take l.i l.instants ≡ map (instant_in (zone_said l.zone)) (take l.i l.locals);
  kind : (n : ℕ) → n < l.i → (a : ℕ) → slice_get l.locals n ≡ Some a → IsLocal a;
}
