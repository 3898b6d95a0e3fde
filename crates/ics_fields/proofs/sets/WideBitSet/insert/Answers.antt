use Rattle.std.proofs.Common.{arith}
use Rattle.ics_fields.proofs.SetLemmas.{contains_wide-set, with_wide_number-is}
use Rattle.ics_fields.proofs.sets.WideBitSet.insert.Goals as goal

pub returns-clause-value : goal.returns-clause-value
returns-clause-value c = rw (← c.self.view_is) (with_wide_number-is c.self.inside.words c.args.n)

pub returns-clause-members : goal.returns-clause-members
returns-clause-members c = λ m. rw (← c.self.view_is) (contains_wide-set c.self.inside.words c.args.n m (omega arith) c.requires)
