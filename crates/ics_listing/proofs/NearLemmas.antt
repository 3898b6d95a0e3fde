-- The days of locals.
use Rattle.std.proofs.Common.{◌≡◌, ℤ, pos, ◌+ℤ◌, arith, negsuc, ◌*ℤ◌, ◌<ℤ◌, ◌≤ℤ◌}
use Rattle.std.specs.Int.{int_div_euclid}
use Rattle.std.proofs.lemmas.Int.{ints}

-- the day of some seconds
pub day-under : (seconds day : ℤ) → day ≡ int_div_euclid seconds (pos 86_400) →
    ((day *ℤ pos 86_400) ≤ℤ seconds) × (seconds <ℤ (day *ℤ pos 86_400 +ℤ pos 86_400))
day-under (pos n) day e = (omega (arith, ints, e), omega (arith, ints, e))
day-under (negsuc n) day e = (omega (arith, ints, e), omega (arith, ints, e))
