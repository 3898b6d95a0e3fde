use Rattle.std.proofs.Common.{arith}
use Rattle.ics_rule.proofs.filled.least_position.Goals as goal

pub returns-clause-front : goal.returns-clause-front
returns-clause-front c = λ k low high.
    let none = c.least_place.ensures.none k low (omega (arith, high, c.min.ensures)) in grind arith

pub returns-clause-back : goal.returns-clause-back
returns-clause-back c = λ k low high.
    let none = c.least_place-2.ensures.none k low (omega (arith, high, c.min.ensures)) in grind arith
