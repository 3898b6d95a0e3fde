-- What the parts of a TEXT value stand for, and its escapes.
use Rattle.std.proofs.Common.{◌≡◌, ℕ, zero, suc, ◌+◌, ◌<◌, ◌≤◌, Bool, true, false, ◌==◌, List, [], ◌∷◌, ◌++◌, length, take, drop, get_or, refl}
use Rattle.std.proofs.Common.{sym, ap, ◌∙◌, arith, inl, inr, add-one, drop-cons, length-drop, if◌then◌else◌}
use Rattle.std.proofs.lemmas.Bool.{eqb-true, and_right, false_from_ne_true}
use Rattle.std.proofs.lemmas.Bool.Decides.{eqb_tells, nat_tests}
use Rattle.std.proofs.lemmas.List.{take-append-drop}
use Rattle.ics_values.specs.Plain.{stands_for_itself, stands_for_lf, plain_text, text_of, escaped}

-- a backslash and the byte behind it stand for the same whatever follows
pub text_of-escape : (b : ℕ) (bs : List ℕ) → text_of (92 ∷ b ∷ bs) ≡ text_of (92 ∷ b ∷ []) ++ text_of bs
text_of-escape b bs = rw (and_right (b == 92) false refl) (by_tests (stands_for_itself b) (stands_for_lf b) (text_of bs))
  where
    by_tests : (itself lf : Bool) (later : List ℕ) →
        ◌≡◌ {A = List ℕ} (if itself then b ∷ later else if lf then 10 ∷ later else 92 ∷ b ∷ later)
        ((if itself then b ∷ [] else if lf then 10 ∷ [] else 92 ∷ b ∷ []) ++ later)
    by_tests false true later = refl
    by_tests _ _ later = refl

-- bytes before the first backslash stand for themselves
pub text_of-run : (bs : List ℕ) (n : ℕ) → ((k : ℕ) → 0 ≤ k → k < n → (get_or bs k 0 == 92) ≡ true → ⊥) → text_of bs ≡ take n bs ++ text_of (drop n bs)
text_of-run bs zero none = refl
text_of-run [] (suc n) none = refl
text_of-run (b ∷ bs) (suc n) none =
    let e : (b == 92) ≡ false = false_from_ne_true (b == 92) (none 0 (omega arith) (omega arith)) in
    rw e (ap (λ t. b ∷ t) (text_of-run bs n (λ k l h. none (suc k) (omega arith) (omega arith))))

-- so does a byte alone, also a backslash
text_of-short : (bs : List ℕ) → length bs < 2 → text_of bs ≡ bs
text_of-short [] few = refl
text_of-short (b ∷ []) few = elim (eqb_tells b 92) [
  | inl e ↦ rw e.0 (ap (λ t. t ∷ []) (sym e.1))
  | inr n ↦ rw n.0 refl
]
text_of-short (b ∷ c ∷ bs) few = absurd (omega arith)

-- a text stands for itself where no backslash stands before its last byte
pub text_of-plain : (bs : List ℕ) (n : ℕ) → length bs < n + 2 → ((k : ℕ) → 0 ≤ k → k < n → (get_or bs k 0 == 92) ≡ true → ⊥) → text_of bs ≡ bs
text_of-plain bs n few none =
    text_of-run bs n none
    ∙ ap (λ t. take n bs ++ t) (text_of-short (drop n bs) (omega (arith, length-drop n bs)))
    ∙ take-append-drop n bs

-- the first backslash and the byte behind it, and what stands before and behind them
pub text_of-parts : (bs : List ℕ) (n : ℕ) {b : ℕ} {behind : List ℕ} → n < length bs → (get_or bs n 0 == 92) ≡ true → drop (n + 1) bs ≡ b ∷ behind →
    ((k : ℕ) → 0 ≤ k → k < n → (get_or bs k 0 == 92) ≡ true → ⊥) → text_of bs ≡ take n bs ++ (text_of (92 ∷ b ∷ []) ++ text_of behind)
text_of-parts bs n {b} {behind} within here rest none =
    let pair : drop n bs ≡ 92 ∷ b ∷ behind = drop-cons bs n 0 within ∙ rw (← add-one, rest, eqb-true (get_or bs n 0) 92 here) refl in
    text_of-run bs n none ∙ ap (λ t. take n bs ++ text_of t) pair ∙ ap (λ t. take n bs ++ t) (text_of-escape b behind)

-- a text comes back from its escapes
pub plain_text-escaped : (text : List ℕ) → plain_text (escaped text) false ≡ text
plain_text-escaped [] = refl
plain_text-escaped (b ∷ bs) = by_tests (plain_text-escaped bs) (stands_for_itself b) (b == 10) refl refl
  where
    by_tests : plain_text (escaped bs) false ≡ bs → (itself lf : Bool) → stands_for_itself b ≡ itself → (b == 10) ≡ lf →
        plain_text (escaped (b ∷ bs)) false ≡ b ∷ bs
    by_tests later true lf h k = rw (h, and_right (b == 92) false refl, h) (ap (λ t. b ∷ t) later)
    by_tests later false true h k = rw (h, k) (let e : b ≡ 10 = eqb-true b 10 k in rw e (ap (λ t. 10 ∷ t) later))
    by_tests later false false h k = let no : (b == 92) ≡ false = grind (arith, nat_tests) in rw (h, k) (rw no (ap (λ t. b ∷ t) later))
