use Rattle.std.proofs.Common.{arith}
use Rattle.ics_rule.proofs.HourLemmas.{not_above}
use Rattle.ics_rule.proofs.hour.HourTimes.last.Goals as goal

pub returns-clause-last : goal.returns-clause-last
returns-clause-last c = λ m s has_m has_s.
    let high_m = not_above c.args.self.now.minutes c.greatest.result m c.greatest.ensures.last has_m in
    let high_s = not_above c.args.self.now.seconds c.greatest-2.result s c.greatest-2.ensures.last has_s in
    omega (arith, high_m, high_s)
