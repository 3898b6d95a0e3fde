use Rattle.std.proofs.lemmas.Grind.{common_steps}
use Rattle.std.proofs.Common.{◌≡◌, ◌∙◌, ℕ, ◌+◌, ◌*◌, ◌≤◌, ◌/◌, false, arith}
use Rattle.ics_fields.specs.Sets.{contains, IsLeastFrom}
use Rattle.ics_fields.proofs.SetLemmas.{member_below}
use Rattle.ics_period.specs.RecurrencePeriods.{has_minute, has_time}
use Rattle.ics_period.proofs.ScanLemmas.{next_here, next_later, block_out, block_done, minute_true, second_below}
use Rattle.ics_period.proofs.recurrence_period.next_second.Goals as goal
use Rattle.ics_period.proofs.recurrence_period.next_second.Goals.{Joined-contains}

pub returns-in-Some-clause-next : goal.returns-in-Some-clause-next
returns-in-Some-clause-next c = next_here 60 (omega arith) (has_minute c.args.hours c.args.minutes) (contains c.args.seconds)
    (λ m. member_below c.args.seconds 60 m c.requires.seconds) c.args.at c.in-Some.second
    (minute_true c.args.hours c.args.minutes (c.args.at / 60) (omega arith) c.contains.ensures c.contains-2.ensures ∙ c.if-contains.true)
    c.in-Some.ensures.next

pub returns-in-Some-clause-small : goal.returns-in-Some-clause-small
returns-in-Some-clause-small c = second_below c.args.hours c.args.minutes c.args.seconds (c.args.at / 60 * 60 + c.in-Some.second) c.requires.hours
    (IsLeastFrom.passes (returns-in-Some-clause-next c))

none_here : (c : Joined-contains) → (m : ℕ) → c.args.at ≤ m → m / 60 ≡ c.args.at / 60 → has_time c.args.hours c.args.minutes c.args.seconds m ≡ false
none_here c = grind (arith, block_done, block_out, member_below, minute_true)

pub returns-in-Some-Some-clause-next : goal.returns-in-Some-Some-clause-next
returns-in-Some-Some-clause-next c = next_later 60 (omega arith) (has_minute c.args.hours c.args.minutes) (contains c.args.seconds)
    (λ m. member_below c.args.seconds 60 m c.requires.seconds) c.args.at c.in-Some-Some.minute c.in-Some-Some.second
    (none_here (goal.at.returns-in-Some-Some-clause-next c).Joined-contains) c.in-Some-Some.ensures.next c.in-Some-Some.ensures'.next

pub returns-in-Some-Some-clause-small : goal.returns-in-Some-Some-clause-small
returns-in-Some-Some-clause-small c = second_below c.args.hours c.args.minutes c.args.seconds (c.in-Some-Some.minute * 60 + c.in-Some-Some.second)
    c.requires.hours (IsLeastFrom.passes (returns-in-Some-Some-clause-next c))

pub returns-in_default-2-clause-next : goal.returns-in_default-2-clause-next
returns-in_default-2-clause-next c = grind (arith, common_steps)

pub returns-in_default-2-2-clause-next : goal.returns-in_default-2-2-clause-next
returns-in_default-2-2-clause-next c = grind (arith, common_steps)
