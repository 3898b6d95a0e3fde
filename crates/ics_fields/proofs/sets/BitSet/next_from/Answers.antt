use Rattle.std.proofs.Common.{arith}
use Rattle.ics_fields.specs.Sets.{IsLeastFrom}
use Rattle.ics_fields.proofs.SetLemmas.{has_above, none_later, next_member, member_below}
use Rattle.ics_fields.proofs.sets.BitSet.next_from.Goals as goal

pub returns-then-n-ge64-clause-next : goal.returns-then-n-ge64-clause-next
returns-then-n-ge64-clause-next c = rw (← c.self.view_is) (λ m h. has_above c.self.inside.bits 64 m (omega arith) (omega arith))

pub returns-then-rest-eq0-clause-next : goal.returns-then-rest-eq0-clause-next
returns-then-rest-eq0-clause-next c = rw (← c.self.view_is) (λ m h. none_later c.self.inside.bits c.args.n m c.if-rest-eq0.true h)

pub returns-clause-next : goal.returns-clause-next
returns-clause-next c = rw (← c.self.view_is) (next_member c.self.inside.bits c.args.n (omega arith) c.if-rest-eq0.false)

pub returns-clause-small : goal.returns-clause-small
returns-clause-small c =
    member_below c.self.inside.bits 64 _ (omega arith) (IsLeastFrom.passes (next_member c.self.inside.bits c.args.n (omega arith) c.if-rest-eq0.false))
