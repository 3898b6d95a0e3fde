use Rattle.std.proofs.Common.{◌≡◌, ◌-◌, true, subst, sym}
use Rattle.std.proofs.lemmas.Nat.{one_shl}
use Rattle.ics_fields.specs.Sets.{contains}
use Rattle.ics_fields.proofs.SetLemmas.{contains-below}
use Rattle.ics_fields.proofs.sets.BitSet.below.Goals as goal

pub returns-clause-members : goal.returns-clause-members
returns-clause-members c = λ m h. subst (λ x. contains (x - 1) m ≡ true) (sym (one_shl c.args.size 64 c.requires)) (contains-below c.args.size m h)
