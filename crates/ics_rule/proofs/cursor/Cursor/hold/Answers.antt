use Rattle.std.proofs.Common.{◌≡◌, ◌≤◌, None, arith}
use Rattle.ics_period.specs.Candidates.{period_in}
use Rattle.ics_period.specs.EffectiveRules.{effective}
use Rattle.ics_period.specs.RecurrencePeriods.{IsPeriodOf}
use Rattle.ics_rule.specs.Cursors.{fresh, IsCursorOf, HasLooked}
use Rattle.ics_rule.proofs.CursorLemmas.{looked_held, own_held}
use Rattle.ics_rule.proofs.cursor.Cursor.hold.Goals as goal
use Rattle.ics_rule.proofs.cursor.Cursor.hold.Goals.{After-next_step}

pub period_of-own-requires : goal.period_of-own-requires
unfolding IsCursorOf
period_of-own-requires c = c.requires.own.inside

pub overflow_add-self : goal.overflow_add-self
unfolding IsCursorOf
overflow_add-self c = let own = c.requires.own in grind arith

none : (c : After-next_step) → c.args.rule.now.parts.count ≡ None
none c = grind arith

-- the other cursor holds the period of the place
is : (c : After-next_step) → IsPeriodOf (effective c.args.rule.now) c.in-Some.period
    × (c.in-Some.period.number ≡ period_in (effective c.args.rule.now) c.args.self.now.place)
unfolding IsCursorOf
is c = let other = c.requires.other.held in grind arith

new : (c : After-next_step) → fresh c.args.self.now.held ≤ c.in-Some.period.number
new c = grind arith

pub returns-clause-own : goal.returns-clause-own
unfolding IsCursorOf
returns-clause-own c = let at = (goal.at.returns-clause-own c).After-next_step in
    own_held c.args.self.now c.in-Some.period (none at) c.requires.own (is at) (new at) (grind arith)

pub returns-clause-looked : goal.returns-clause-looked
unfolding IsCursorOf HasLooked
returns-clause-looked c = let at = (goal.at.returns-clause-looked c).After-next_step in
    looked_held c.args.self.now c.in-Some.period (none at) c.requires.own (is at) (new at) (grind arith)
