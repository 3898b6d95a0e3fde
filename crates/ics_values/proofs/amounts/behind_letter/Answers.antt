use Rattle.std.proofs.Common.{◌≡◌, ◌≢◌, ◌==◌, ℕ, false, [], ◌∷◌, sym, subst, arith}
use Rattle.std.proofs.lemmas.Bool.{ne_eqb}
use Rattle.std.proofs.lemmas.Grind.{common_steps}
use Rattle.ics_values.specs.Digits.{upper}
use Rattle.ics_values.specs.Inner.Amounts.{LacksFront}
use Rattle.ics_values.proofs.ShapeLemmas.{lacks-letter}
use Rattle.ics_values.proofs.amounts.behind_letter.Goals as goal

pub returns-else-to_ascii_uppercase-letter : goal.returns-else-to_ascii_uppercase-letter
returns-else-to_ascii_uppercase-letter c =
    let first = c.in_ok-first.first.now in
    let rest = c.in_ok-first.rest.now in
    let other : upper first ≢ c.args.letter = subst (λ (u : ℕ). u ≢ c.args.letter) c.to_ascii_uppercase.ensures.value c.if-to_ascii_uppercase-letter.false in
    let none : (upper first == c.args.letter) ≡ false = ne_eqb (upper first) c.args.letter other in
    subst (LacksFront (c.args.letter ∷ [])) (sym c.in_ok-first.ensures.cases.0) (lacks-letter c.args.letter first rest c.requires none)

pub returns-in_err-first : goal.returns-in_err-first
returns-in_err-first c = grind (arith, common_steps)
