use Rattle.std.proofs.Common.{◌≡◌, ◌∙◌, refl, sym, true, false}
use Rattle.ics_fields.specs.Ordinals.{lists_none_wide}
use Rattle.ics_period.specs.Ranks.{count}
use Rattle.ics_period.specs.RecurrencePeriods.{holds, is_listed}
use Rattle.ics_period.proofs.ProductCounts.{holds_past, next_small}
use Rattle.ics_period.proofs.RankLemmas.{next_ranked, none_ranked}
use Rattle.ics_fields.specs.Locals.{calendar_end}
use Rattle.ics_period.proofs.recurrence_period.RecurrencePeriod.next_taken.Goals as goal

pub returns-then-is_empty-clause-next : goal.returns-then-is_empty-clause-next
returns-then-is_empty-clause-next c =
    let none : lists_none_wide c.args.positions.now ≡ true = sym c.is_empty.ensures ∙ c.if-is_empty.true in
    rw none c.next_from.ensures.next

pub returns-in-Some-clause-next : goal.returns-in-Some-clause-next
returns-in-Some-clause-next c =
    let some : lists_none_wide c.args.positions.now ≡ false = sym c.is_empty.ensures ∙ c.if-is_empty.false in
    rw some (next_ranked (holds c.args.self.now) (is_listed c.args.positions.now (count calendar_end (holds c.args.self.now))) c.args.n c.in-Some.place
    c.nth.result (rw (c.size.ensures.value, c.rank_before.ensures.value, c.positions.view_is) at c.in-Some.ensures.0) c.nth.ensures.nth)

pub returns-in-None-clause-next : goal.returns-in-None-clause-next
returns-in-None-clause-next c =
    let some : lists_none_wide c.args.positions.now ≡ false = sym c.is_empty.ensures ∙ c.if-is_empty.false in
    rw some (none_ranked (holds c.args.self.now) (is_listed c.args.positions.now (count calendar_end (holds c.args.self.now))) c.args.n calendar_end refl
    (holds_past c.args.self.now c.requires.own.1.first)
    (rw (c.size.ensures.value, c.rank_before.ensures.value, c.positions.view_is) at c.in-None.ensures))

pub returns-then-is_empty-clause-small : goal.returns-then-is_empty-clause-small
returns-then-is_empty-clause-small c = next_small c.args.self.now c.args.n c.next_from.result c.requires.own.1.first c.next_from.ensures.next
