use Rattle.std.proofs.Common.{◌≡◌, ◌∙◌, ap, arith}
use Rattle.ics_period.specs.Recurrence.{Recurrence}
use Rattle.ics_fields.specs.Locals.{number}
use Rattle.ics_rule.specs.Cursors.{IsCursorOf, HasLooked}
use Rattle.ics_rule.proofs.cursor.Cursor.next.Goals as goal
use Rattle.ics_rule.proofs.cursor.Cursor.next.Goals.{After-number}

-- the start that the code counts with
start_is : (c : After-number) → c.number.result ≡ number c.args.rule.now.start
start_is c = c.number.ensures.value ∙ ap (λ (r : Recurrence). number r.start) c.rule.view_is

pub next_number-requires-clause-own : goal.next_number-requires-clause-own
unfolding IsCursorOf
next_number-requires-clause-own c = rw (start_is (goal.at.next_number-requires-clause-own c).After-number) c.requires.own

pub returns-in_err-n-clause-own : goal.returns-in_err-n-clause-own
unfolding IsCursorOf
returns-in_err-n-clause-own c = rw (start_is (goal.at.returns-in_err-n-clause-own c).After-number) at c.next_number.ensures.own

pub returns-in_err-n-clause-looked : goal.returns-in_err-n-clause-looked
unfolding HasLooked
returns-in_err-n-clause-looked c = grind (arith, start_is)

pub returns-clause-own : goal.returns-clause-own
unfolding IsCursorOf
returns-clause-own c = rw (start_is (goal.at.returns-clause-own c).After-number) at c.next_number.ensures.own

pub returns-clause-looked : goal.returns-clause-looked
unfolding HasLooked
returns-clause-looked c = grind (arith, start_is)

pub returns-in_err-n-clause-counted : goal.returns-in_err-n-clause-counted
returns-in_err-n-clause-counted c = rw c.from_residual.ensures (record { rise = c.next_number.ensures.rise; some = tt; more = tt })

pub returns-clause-counted : goal.returns-clause-counted
returns-clause-counted c = grind (arith, start_is)
