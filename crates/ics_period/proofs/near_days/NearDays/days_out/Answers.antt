use Rattle.std.proofs.Common.{◌-◌, arith}
use Rattle.ics_period.proofs.NearLemmas.{left_out}
use Rattle.ics_period.proofs.near_days.NearDays.days_out.Goals as goal

pub returns-in-Some-clause-none : goal.returns-in-Some-clause-none
returns-in-Some-clause-none c = λ q are e low high. left_out e are (omega (arith, low, c.if-day-self.false)) (omega (arith, high, c.requires.high))
    (c.in-Some.ensures.next.least (e - c.args.self.now.first) (omega (arith, low, c.if-day-self.false)) (omega (arith, low, high, c.if-day-self.false)))

pub returns-in-None-clause-none : goal.returns-in-None-clause-none
returns-in-None-clause-none c = λ q are e low high. left_out e are (omega (arith, low, c.if-day-self.false)) (omega (arith, high, c.requires.high))
    (c.in-None.ensures.next (e - c.args.self.now.first) (omega (arith, low, c.if-day-self.false)))
