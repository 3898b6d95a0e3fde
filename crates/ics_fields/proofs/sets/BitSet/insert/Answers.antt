use Rattle.ics_fields.proofs.SetLemmas.{contains-or_bit, with_number-is}
use Rattle.ics_fields.proofs.sets.BitSet.insert.Goals as goal

pub returns-clause-value : goal.returns-clause-value
returns-clause-value c = rw (← c.self.view_is) (with_number-is c.self.inside.bits c.args.n c.requires)

pub returns-clause-members : goal.returns-clause-members
returns-clause-members c = λ m. rw (← c.self.view_is) (contains-or_bit c.self.inside.bits c.args.n m c.requires)
