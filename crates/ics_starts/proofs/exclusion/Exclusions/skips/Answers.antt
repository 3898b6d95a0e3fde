use Rattle.std.proofs.Common.{◌≤ℤ◌, ⊎_elim, w64, to_z, of_z, arith}
use Rattle.std.proofs.lemmas.Int.{int_max_is, ints}
use Rattle.ics_zone.proofs.Cases.{less_or_not_z}
use Rattle.ics_starts.proofs.exclusion.Exclusions.skips.Goals as goal

pub returns-then-is_empty : goal.returns-then-is_empty
returns-then-is_empty c = λ clock b s local on before. absurd (omega (arith, ints, on, before))

pub returns : goal.returns
returns c = λ clock b s local on before.
    let from : to_z w64 (of_z w64 c.args.next) ≤ℤ local = omega (arith, ints, on, c.requires.next) in
    ⊎_elim (λ l. c.skips_in-shown.ensures clock s local from l)
    (λ m. c.skips_by.ensures clock b local from (omega (arith, ints, m, before, int_max_is, c.max.ensures.value)))
    (less_or_not_z local c.skips_in-shown.result)
