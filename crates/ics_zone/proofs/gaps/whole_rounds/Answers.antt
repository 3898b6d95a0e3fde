use Rattle.std.proofs.Common.{◌≡◌, ◌+◌, ◌*◌, ◌/◌, arith}
use Rattle.std.proofs.lemmas.Nat.{div-add-mod'}
use Rattle.ics_zone.proofs.gaps.whole_rounds.Goals as goal

pub returns-clause-rounds : goal.returns-clause-rounds
returns-clause-rounds c =
    let d = c.args.past / c.args.round in
    let whole = div-add-mod' c.args.past c.args.round in
    let more : (d + 1) * c.args.round ≡ d * c.args.round + c.args.round = omega arith in
    (d + 1, omega (arith, whole, more))
