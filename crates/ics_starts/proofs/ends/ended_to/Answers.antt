use Rattle.std.proofs.Common.{◌≡◌, ◌+ℤ◌, ◌-ℤ◌, arith, w64, to_z, of_z}
use Rattle.std.proofs.lemmas.Int.{ints}
use Rattle.ics_starts.proofs.ends.ended_to.Goals as goal

pub returns : goal.returns
returns c =
    let on = c.requires.on in
    let offset = c.requires.offset in
    let by = c.requires.by in
    let seconds = c.requires.seconds in
    let first : to_z w64 (of_z w64 (to_z w64 (of_z w64 c.args.by) -ℤ to_z w64 (of_z w64 c.args.on))) ≡ c.args.by -ℤ c.args.on = omega (arith, ints, on, by) in
    let next : to_z w64 (of_z w64 (to_z w64 (of_z w64 (to_z w64 (of_z w64 c.args.by) -ℤ to_z w64 (of_z w64 c.args.on))) +ℤ to_z w64 (of_z w64 c.args.offset)))
    ≡ c.args.by -ℤ c.args.on +ℤ c.args.offset = omega (arith, ints, first, on, by, offset) in
    omega (arith, ints, next, on, by, offset, seconds)
