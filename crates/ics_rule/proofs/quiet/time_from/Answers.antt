use Rattle.std.proofs.Common.{◌/◌}
use Rattle.std.proofs.lemmas.Bool.{and_right}
use Rattle.ics_period.specs.Candidates.{lets_date, lets_clock}
use Rattle.ics_rule.proofs.quiet.time_from.Goals as goal

pub returns-clause-none : goal.returns-clause-none
returns-clause-none c = λ m l u.
    and_right (lets_date c.args.parts.now (m / 86_400)) (lets_clock c.args.parts.now m) (c.next_open_second.ensures.none m l u)
