use Rattle.std.proofs.Common.{◌≡◌, ◌≤◌, ℤ, pos, negsuc, ◌+ℤ◌, arith, rules, w64, to_z, of_z, unsigned_abs}
use Rattle.std.specs.Int.{int_max, int_min}
use Rattle.jiff_core.specs.Calendar.{IsWithin}
use Rattle.std.proofs.lemmas.Int.{ints, clamps, to_z-of_z}
use Rattle.ics_zone.specs.Observances.{epoch}
use Rattle.ics_period.specs.PeriodNumbers.{rules_end}
use Rattle.ics_zone.specs.Inner.OnsetSets.{IsShownBy}
use Rattle.ics_zone.proofs.clock.shown_by.Goals as goal

-- the sum that is clamped twice
shown_by : {offset moment near : ℤ} (shown : ℤ) → IsWithin 86_399 offset → near ≡ int_max (negsuc 99_999_999_999) (int_min moment (pos 400_000_000_000))
    → shown ≡ int_max (pos 0) (int_min (near +ℤ offset +ℤ pos epoch +ℤ pos 1) (pos rules_end)) → unsigned_abs shown ≤ rules_end
    → IsShownBy offset moment (unsigned_abs shown)
shown_by shown short near_is shown_is bound = record { bound = bound; shown = λ n l. omega (arith, ints, clamps); later = λ n l e. omega (arith, ints, clamps) }

pub returns : goal.returns
returns c =
    let near = simp (to_z-of_z, c.ranges.moment) at c.clamp-moment.ensures.value in
    shown_by (to_z w64 (of_z w64 c.clamp.result)) c.requires near (omega (arith, ints, clamps)) (search rules)
