-- There are lines of files exactly where a read is faulty.
use Rattle.std.proofs.Common.{◌≡◌, ◌≢◌, ℕ, List, [], ◌∷◌, ◌++◌, Bool, true, Any, refl}
use Rattle.std.specs.Prelude.{◌↔◌, ◌||◌, IsTrue}
use Rattle.std.specs.List.{list_any}
use Rattle.std.proofs.lemmas.List.Folds.{Any-from_list_any, list_any-from_Any}
use Rattle.khal_reading.specs.Asked.{Asked}
use Rattle.khal_reading.specs.Errors.{Refusal, lines_of}
use Rattle.khal_reading.specs.Gives.{Read, are_some, error_lines, is_faulty, read_gives}

-- the lines of one read more
line-more : (name : List ℕ) (refusals : List Refusal) (rest : List ℕ) (more : Bool) → (more ≡ true) ↔ (rest ≢ []) →
    ((are_some refusals || more) ≡ true) ↔ (lines_of name refusals ++ rest ≢ [])
line-more name [] rest more h = h
line-more name (refusal ∷ refusals) rest more h = (λ _ e. cc, λ _. refl)

module _ (keep_going : Bool) (asked : List Asked) where
  lines-any : (reads : List Read) → (list_any (is_faulty keep_going asked) reads ≡ true) ↔ (error_lines keep_going asked reads ≢ [])
  lines-any [] = (λ e _. cc, λ f. absurd (f refl))
  lines-any (read ∷ reads) =
      line-more read.0 (read_gives keep_going asked read).refusals (error_lines keep_going asked reads) (list_any (is_faulty keep_going asked) reads)
      (lines-any reads)

  pub lines-refused : (reads : List Read) (P : Type 0) → P ↔ (error_lines keep_going asked reads ≢ [])
      → P ↔ Any (λ read. IsTrue (is_faulty keep_going asked read)) reads
  lines-refused reads P s =
      let same = lines-any reads in
      let test : Read → Bool = is_faulty keep_going asked in
      (λ p. Any-from_list_any test reads (same.1 (s.0 p)), λ a. s.1 (same.0 (list_any-from_Any test reads a)))
