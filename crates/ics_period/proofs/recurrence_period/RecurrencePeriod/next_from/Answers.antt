use Rattle.std.proofs.Common.{◌≡◌, ◌∙◌, ℕ, ◌≤◌, ◌/◌, ◌%◌, false, sym, arith, rules}
use Rattle.std.proofs.lemmas.Bool.{and_right}
use Rattle.ics_period.specs.RecurrencePeriods.{has_day, has_second, holds}
use Rattle.ics_period.proofs.ScanLemmas.{next_here, next_later, none_later, block_out, block_done, second_below}
use Rattle.ics_period.proofs.recurrence_period.RecurrencePeriod.next_from.Goals as goal
use Rattle.ics_period.proofs.recurrence_period.RecurrencePeriod.next_from.Goals.{Joined-has_day}

none_here : (c : Joined-has_day) → (m : ℕ) → c.args.n ≤ m → m / 86_400 ≡ c.args.n / 86_400 → holds c.args.self.now m ≡ false
none_here c = grind (arith, block_done, block_out, second_below)

pub returns-in-Some-next_second-clause-next : goal.returns-in-Some-next_second-clause-next
returns-in-Some-next_second-clause-next c = next_later 86_400 (omega arith) (has_day c.args.self.now) (has_second c.args.self.now)
    (λ t. second_below c.args.self.now.hours c.args.self.now.minutes c.args.self.now.seconds t c.requires.hours) c.args.n c.in-Some-next_day.day
    c.in-Some-next_second.second (none_here (goal.at.returns-in-Some-next_second-clause-next c).Joined-has_day) c.in-Some-next_day.ensures.next
    c.in-Some-next_second.ensures.next

pub returns-in-Some-clause-next : goal.returns-in-Some-clause-next
returns-in-Some-clause-next c = next_here 86_400 (omega arith) (has_day c.args.self.now) (has_second c.args.self.now)
    (λ t. second_below c.args.self.now.hours c.args.self.now.minutes c.args.self.now.seconds t c.requires.hours) c.args.n c.in-Some.second
    (sym c.has_day.ensures ∙ c.if-has_day.true) c.in-Some.ensures.next

pub returns-in_default-next_second-clause-next : goal.returns-in_default-next_second-clause-next
returns-in_default-next_second-clause-next c m low =
    and_right (has_day c.args.self.now (m / 86_400)) (has_second c.args.self.now (m % 86_400))
    (c.in_default-next_second.ensures.next (m % 86_400) (omega arith))

pub returns-in_default-next_day-clause-next : goal.returns-in_default-next_day-clause-next
returns-in_default-next_day-clause-next c = none_later 86_400 (omega arith) (has_day c.args.self.now) (has_second c.args.self.now)
    (λ t. second_below c.args.self.now.hours c.args.self.now.minutes c.args.self.now.seconds t c.requires.hours) c.args.n
    (none_here (goal.at.returns-in_default-next_day-clause-next c).Joined-has_day) c.in_default-next_day.ensures.next

pub returns-in-Some-clause-small : goal.returns-in-Some-clause-small
returns-in-Some-clause-small c = search rules

pub returns-in-Some-next_second-clause-small : goal.returns-in-Some-next_second-clause-small
returns-in-Some-next_second-clause-small c = search rules
