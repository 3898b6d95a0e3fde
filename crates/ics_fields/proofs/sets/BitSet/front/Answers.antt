use Rattle.std.proofs.Common.{◌∙◌, ◌%◌, ap}
use Rattle.std.proofs.lemmas.Nat.{one_shl}
use Rattle.ics_fields.specs.Sets.{contains}
use Rattle.ics_fields.proofs.SetLemmas.{contains-front}
use Rattle.ics_fields.proofs.sets.BitSet.front.Goals as goal

pub returns-clause-members : goal.returns-clause-members
returns-clause-members c = λ m h.
    ap (λ x. contains (c.self.inside.bits % x) m) (one_shl c.args.size 64 c.requires)
    ∙ contains-front c.self.inside.bits c.args.size m h
    ∙ ap (λ x. contains x m) c.self.view_is
