use Rattle.std.proofs.Common.{◌/◌, arith}
use Rattle.std.proofs.lemmas.Bool.{and_right}
use Rattle.ics_period.specs.Candidates.{lets_date, lets_clock}
use Rattle.ics_rule.proofs.pass.next_time.Goals as goal

pub returns-then-skips_hours-clause-none : goal.returns-then-skips_hours-clause-none
returns-then-skips_hours-clause-none c = λ m l u. absurd (omega (arith, l, u))

pub returns-else-skips_hours-clause-none : goal.returns-else-skips_hours-clause-none
returns-else-skips_hours-clause-none c = λ m l u.
    and_right (lets_date c.args.parts.now (m / 86_400)) (lets_clock c.args.parts.now m) (c.next_open_second.ensures.none m l u)
