-- What is added piece by piece is added as one.
use Rattle.std.proofs.Common.{◌≡◌, ◌≤◌, ℕ, List, ◌++◌, length, drop, sym, ap, ◌∙◌, append_assoc, append-nil}
use Rattle.std.proofs.lemmas.List.{drop_all}
use Rattle.khal_words.specs.declared.format.Piece.{Piece}
use Rattle.khal_words.specs.Formats.{filled}

pub two_added : (x a b : List ℕ) {p q : List ℕ} → p ≡ x ++ a → q ≡ p ++ b → q ≡ x ++ (a ++ b)
two_added x a b first second = second ∙ ap (λ t. t ++ b) first ∙ append_assoc x a b

-- pieces of which none is left are added whole
pub whole_added : {F : Type 0} (value : F → List ℕ) (pieces : List (Piece F)) (i : ℕ) (p : List ℕ) {whole : List ℕ} → length pieces ≤ i
    → p ++ filled value (drop i pieces) ≡ whole → p ≡ whole
whole_added value pieces i p past added = sym (append-nil p) ∙ (ap (λ left. p ++ filled value left) (sym (drop_all i pieces past)) ∙ added)
