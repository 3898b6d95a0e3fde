use Rattle.std.proofs.Common.{arith}
use Rattle.ics_rule.specs.Cursors.{IsCursorOf, HasLooked}
use Rattle.ics_rule.proofs.cursor.Cursor.at.Goals as goal

pub returns-clause-own : goal.returns-clause-own
unfolding IsCursorOf
returns-clause-own c = grind arith

pub returns-clause-looked : goal.returns-clause-looked
unfolding HasLooked
returns-clause-looked c = λ b. grind arith
