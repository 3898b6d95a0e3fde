use Rattle.std.proofs.Common.{◌≡◌, rules, w64, to_z, of_z, arith, int_le, int_lt, ◌&&◌, SFits}
use Rattle.std.proofs.lemmas.Int.{ints}
use Rattle.ics_starts.proofs.instants.is_in.Goals as goal

pub returns : goal.returns
returns c =
    let s = c.args.stretch in
    let from-fits : SFits w64 c.args.stretch.from = search rules in
    let to-fits : SFits w64 c.args.stretch.to = search rules in
    let fits : SFits w64 c.args.local = c.ranges.local in
    let from : to_z w64 (of_z w64 c.args.stretch.from) ≡ c.args.stretch.from = omega (arith, ints) in
    let to : to_z w64 (of_z w64 c.args.stretch.to) ≡ c.args.stretch.to = omega (arith, ints) in
    let local : to_z w64 (of_z w64 c.args.local) ≡ c.args.local = omega (arith, ints) in
    λ i. int_le (from i) (local i) && int_lt (local i) (to i)
