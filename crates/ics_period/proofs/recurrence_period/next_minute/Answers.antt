use Rattle.std.proofs.lemmas.Grind.{common_steps}
use Rattle.std.proofs.Common.{◌≡◌, ◌∙◌, ℕ, ◌+◌, ◌*◌, ◌≤◌, ◌/◌, false, sym, arith}
use Rattle.ics_fields.specs.Sets.{contains, IsLeastFrom}
use Rattle.ics_fields.proofs.SetLemmas.{member_below}
use Rattle.ics_period.specs.RecurrencePeriods.{has_minute}
use Rattle.ics_period.proofs.ScanLemmas.{next_here, next_later, block_out, block_done, in_word, minute_below}
use Rattle.ics_period.proofs.recurrence_period.next_minute.Goals as goal
use Rattle.ics_period.proofs.recurrence_period.next_minute.Goals.{Joined-contains}

pub returns-in-Some-clause-next : goal.returns-in-Some-clause-next
returns-in-Some-clause-next c = next_here 60 (omega arith) (contains c.args.hours) (contains c.args.minutes)
    (λ m. member_below c.args.minutes 60 m c.requires.minutes) c.args.at c.in-Some.minute
    (sym (in_word (c.args.at / 60) (contains c.args.hours (c.args.at / 60)) (omega arith)) ∙ sym c.contains.ensures ∙ c.if-contains.true) c.in-Some.ensures.next

pub returns-in-Some-clause-small : goal.returns-in-Some-clause-small
returns-in-Some-clause-small c = minute_below c.args.hours c.args.minutes (c.args.at / 60 * 60 + c.in-Some.minute) c.requires.hours
    (IsLeastFrom.passes (returns-in-Some-clause-next c))

none_here : (c : Joined-contains) → (m : ℕ) → c.args.at ≤ m → m / 60 ≡ c.args.at / 60 → has_minute c.args.hours c.args.minutes m ≡ false
none_here c = grind (arith, block_done, block_out, in_word, member_below)

pub returns-in-Some-Some-clause-next : goal.returns-in-Some-Some-clause-next
returns-in-Some-Some-clause-next c = next_later 60 (omega arith) (contains c.args.hours) (contains c.args.minutes)
    (λ m. member_below c.args.minutes 60 m c.requires.minutes) c.args.at c.in-Some-Some.hour c.in-Some-Some.minute
    (none_here (goal.at.returns-in-Some-Some-clause-next c).Joined-contains) c.in-Some-Some.ensures.next c.in-Some-Some.ensures'.next

pub returns-in-Some-Some-clause-small : goal.returns-in-Some-Some-clause-small
returns-in-Some-Some-clause-small c = minute_below c.args.hours c.args.minutes (c.in-Some-Some.hour * 60 + c.in-Some-Some.minute) c.requires.hours
    (IsLeastFrom.passes (returns-in-Some-Some-clause-next c))

pub returns-in_default-2-clause-next : goal.returns-in_default-2-clause-next
returns-in_default-2-clause-next c = grind (arith, common_steps)

pub returns-in_default-2-clause-small : goal.returns-in_default-2-clause-small
returns-in_default-2-clause-small c = grind (arith, common_steps)

pub returns-in_default-2-2-clause-next : goal.returns-in_default-2-2-clause-next
returns-in_default-2-2-clause-next c = grind (arith, common_steps)

pub returns-in_default-2-2-clause-small : goal.returns-in_default-2-2-clause-small
returns-in_default-2-2-clause-small c = grind (arith, common_steps)
