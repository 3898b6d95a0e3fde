use Rattle.std.proofs.Common.{◌≡◌, ℕ, zero, suc, ◌==◌, ◌&&◌, List, [], ◌∷◌, length, refl, ap, ◌∙◌, arith}
use lib.Pointwise.{pointwise}
use Rattle.ics_fields.specs.Sets.{is_empty_wide}
use Rattle.ics_fields.proofs.sets.WideBitSet.is_empty.Goals as goal

abbrev zeros : ℕ → List ℕ
zeros zero = []
zeros (suc n) = 0 ∷ zeros n

-- words are the empty set where they are zeros
all_zero : (n : ℕ) (ws : List ℕ) → length ws ≡ n → pointwise ◌==◌ ws (zeros n) ≡ is_empty_wide ws
all_zero zero [] h = refl
all_zero zero (w ∷ ws) h = absurd (omega arith)
all_zero (suc n) [] h = absurd (omega arith)
all_zero (suc n) (w ∷ ws) h = ap (λ t. (w == 0) && t) (all_zero n ws (omega arith))

pub returns : goal.returns
returns c = c.eq.ensures ∙ all_zero 6 c.self.inside.words c.self.told ∙ ap is_empty_wide c.self.view_is
