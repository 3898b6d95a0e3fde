use Rattle.std.proofs.Common.{◌≡◌, ◌∙◌, ap, arith}
use Rattle.ics_fields.specs.Locals.{number}
use Rattle.ics_period.specs.Recurrence.{Recurrence}
use Rattle.ics_rule.specs.Cursors.{IsCursorOf, HasLooked}
use Rattle.ics_rule.proofs.cursor.Cursor.quiet.Goals as goal
use Rattle.ics_rule.proofs.cursor.Cursor.quiet.Goals.{After-number}

start_is : (c : After-number) → c.number.result ≡ number c.args.rule.now.start
start_is c = c.number.ensures.value ∙ ap (λ (r : Recurrence). number r.start) c.rule.view_is

pub quiet_number-requires-clause-own : goal.quiet_number-requires-clause-own
unfolding IsCursorOf
quiet_number-requires-clause-own c = rw (start_is (goal.at.quiet_number-requires-clause-own c).After-number) c.requires.own

pub returns-clause-none : goal.returns-clause-none
returns-clause-none c = rw c.numbered.ensures.value c.quiet_number.ensures.none

pub returns-clause-own : goal.returns-clause-own
unfolding IsCursorOf
returns-clause-own c = rw (start_is (goal.at.returns-clause-own c).After-number) at c.quiet_number.ensures.own

pub returns-clause-looked : goal.returns-clause-looked
unfolding HasLooked
returns-clause-looked c = λ a b few. grind arith
