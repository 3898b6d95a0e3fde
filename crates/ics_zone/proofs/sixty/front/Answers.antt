use Rattle.std.proofs.Common.{ap, ◌∙◌, ◌%◌, arith}
use Rattle.std.proofs.lemmas.Nat.{one_shl, pow_pos}
use Rattle.ics_fields.specs.Sets.{contains}
use Rattle.ics_zone.proofs.SixtyLemmas.{contains-first}
use Rattle.ics_zone.proofs.sixty.front.Goals as goal

pub returns-clause-members : goal.returns-clause-members
returns-clause-members c = λ n. ap (λ x. contains (c.args.word % x) n) (one_shl c.args.size 64 (omega arith)) ∙ contains-first c.args.word c.args.size n

pub returns-clause-bound : goal.returns-clause-bound
returns-clause-bound c = omega (arith, one_shl c.args.size 64 (omega arith), pow_pos c.args.size)
