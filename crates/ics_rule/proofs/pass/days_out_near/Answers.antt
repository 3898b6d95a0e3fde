use Rattle.std.proofs.Common.{◌+◌, arith}
use Rattle.ics_rule.proofs.pass.days_out_near.Goals as goal

pub returns-then-out-gt0-clause-none : goal.returns-then-out-gt0-clause-none
returns-then-out-gt0-clause-none c = λ j h. c.days_out-out.ensures.none c.args.parts.now c.requires.near (c.args.day + j) (omega arith) (omega (arith, h))
