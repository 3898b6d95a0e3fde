use Rattle.std.proofs.Common.{arith}
use Rattle.ics_rule.specs.Cursors.{IsCursorOf, HasLooked}
use Rattle.ics_rule.proofs.CursorLemmas.{own_at}
use Rattle.ics_rule.proofs.cursor.Cursor.pass.Goals as goal

pub returns-clause-own : goal.returns-clause-own
unfolding IsCursorOf
returns-clause-own c = let own = c.requires.own in
    own_at c.max-self.result own (omega (arith, c.max-self.ensures)) (omega (arith, c.max-self.ensures, own.inside, c.number.ensures))

pub returns-clause-looked : goal.returns-clause-looked
unfolding HasLooked
returns-clause-looked c = λ a b few. grind arith
