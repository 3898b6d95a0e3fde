use Rattle.std.proofs.Common.{◌≡◌, arith, ◌+ℤ◌, ◌-ℤ◌, pos, to_z, of_z, w32, subst, ap, unsigned_abs}
use Rattle.std.proofs.lemmas.Int.{ints}
use Rattle.ics_fields.specs.Fields.{IsCivilOf}
use Rattle.ics_period.proofs.date.civil_at.Goals as goal

pub overflow_cast-index : goal.overflow_cast-index
overflow_cast-index c = omega (arith, ints)

pub overflow_sub-index : goal.overflow_sub-index
overflow_sub-index c = omega (arith, ints)

pub civil-requires : goal.civil-requires
civil-requires c = (omega (arith, ints), omega (arith, ints))

pub returns : goal.returns
returns c =
    let same : to_z w32 (of_z w32 (to_z w32 c.args.index -ℤ pos 719_528)) +ℤ pos 719_528 ≡ pos c.args.index = omega (arith, ints) in
    subst (IsCivilOf c.civil.result) (ap unsigned_abs same) c.civil.ensures.fields
