use Rattle.std.proofs.Common.{◌-ℤ◌, arith}
use Rattle.std.proofs.lemmas.Int.{int_min_is, ints}
use Rattle.ics_starts.proofs.ends.told_to.Goals as goal

pub overflow_add-by : goal.overflow_add-by
overflow_add-by c = let on = c.requires.on in let by = c.requires.by in omega (arith, ints, on, by)

pub overflow_sub-result : goal.overflow_sub-result
overflow_sub-result c =
    let on = c.requires.on in
    let by = c.requires.by in
    omega (arith, ints, on, by, c.requires.late, int_min_is, c.min.ensures.value, c.min.type_inv)

pub returns : goal.returns
returns c =
    let on = c.requires.on in
    let by = c.requires.by in
    omega (arith, ints, on, by, c.requires.late, int_min_is, int_min_is (c.args.to -ℤ c.args.on) c.args.by, c.min.ensures.value, c.min.type_inv)
