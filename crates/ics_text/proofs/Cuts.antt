-- Where the first physical line of bytes ends.
use Rattle.std.proofs.Common.{◌≡◌, ◌≢◌, ℕ, ◌+◌, ◌<◌, ◌≤◌, Bool, true, false, ◌==◌, List, [], ◌∷◌, ◌++◌, length, take, drop, get_or, refl, ap}
use Rattle.std.proofs.Common.{◌∙◌, arith, inl, inr, not}
use Rattle.std.specs.List.{list_all}
use Rattle.std.proofs.lemmas.Bool.{and_parts, and_right, cases_Bool, not-true, false_from_ne_true}
use Rattle.std.proofs.lemmas.Bool.Decides.{eqb_tells}
use Rattle.std.proofs.lemmas.Grind.{common_steps}
use Rattle.std.proofs.lemmas.List.{length-take, get_or-take}
use Rattle.std.proofs.lemmas.List.Elements.{All-from_get_or}
use Rattle.std.proofs.lemmas.List.Sums.{list_all-from_AllPass}
use Rattle.ics_text.specs.Bytes.{begins}
use Rattle.ics_text.specs.Unfolded.{physical_lines, onto_first}
use Rattle.ics_text.specs.Inner.Reading.{without_cr}

-- a CR at the end is left off
pub without_cr-append : (front : List ℕ) → without_cr (front ++ 13 ∷ []) ≡ front
without_cr-append [] = refl
without_cr-append (b ∷ []) = refl
without_cr-append (b ∷ c ∷ cs) = ap (λ t. b ∷ t) (without_cr-append (c ∷ cs))

-- and another byte stays
pub without_cr-keeps : (bs : List ℕ) → ((front : List ℕ) → bs ≢ front ++ 13 ∷ []) → without_cr bs ≡ bs
without_cr-keeps [] other = refl
without_cr-keeps (b ∷ []) other = elim (eqb_tells b 13) [
  | inl e ↦ absurd (other [] (ap (λ t. t ∷ []) e.1))
  | inr n ↦ rw n.0 refl
]
without_cr-keeps (b ∷ c ∷ cs) other = ap (λ t. b ∷ t) (without_cr-keeps (c ∷ cs) (λ front e. other (b ∷ front) (ap (λ t. b ∷ t) e)))

-- no byte of the list is an LF
abbrev pub no_lf : List ℕ → Bool
no_lf bs = list_all (λ b. not (b == 10)) bs

-- a byte that ends no line goes to the first line of the rest
step : (b : ℕ) (bs : List ℕ) → (b == 10) ≡ false → begins (λ c. c == 10) bs ≡ false → physical_lines (b ∷ bs) ≡ onto_first b (physical_lines bs)
step b bs e h = rw (e, h, and_right (b == 13) false refl) refl

begins_no_lf : (bs : List ℕ) → no_lf bs ≡ true → begins (λ c. c == 10) bs ≡ false
begins_no_lf [] h = refl
begins_no_lf (b ∷ bs) h = not-true (b == 10) (and_parts (not (b == 10)) (no_lf bs) h).0

tail_no_lf : (b : ℕ) (bs : List ℕ) → no_lf (b ∷ bs) ≡ true → no_lf bs ≡ true
tail_no_lf b bs h = (and_parts (not (b == 10)) (no_lf bs) h).1

-- bytes without an LF are one line
pub whole : (bs : List ℕ) → no_lf bs ≡ true → physical_lines bs ≡ bs ∷ []
whole [] h = refl
whole (b ∷ bs) h =
    step b bs (begins_no_lf (b ∷ bs) h) (begins_no_lf bs (tail_no_lf b bs h)) ∙ ap (onto_first b) (whole bs (tail_no_lf b bs h))

-- the first line ends before the first LF, or before the CR that stands there
pub front : (head tail : List ℕ) → no_lf head ≡ true → physical_lines (head ++ 10 ∷ tail) ≡ without_cr head ∷ physical_lines tail
front [] tail h = refl
front (b ∷ []) tail h = rw (begins_no_lf (b ∷ []) h) (elim (cases_Bool (b == 13)) [ inl e ↦ rw e refl | inr e ↦ rw e refl ])
front (b ∷ c ∷ cs) tail h =
    step b (c ∷ cs ++ 10 ∷ tail) (begins_no_lf (b ∷ c ∷ cs) h) (begins_no_lf (c ∷ cs) (tail_no_lf b (c ∷ cs) h))
    ∙ ap (onto_first b) (front (c ∷ cs) tail (tail_no_lf b (c ∷ cs) h))

-- what a search for the first LF says
pub no_lf-from : (bs : List ℕ) → ((k : ℕ) → 0 ≤ k → k < length bs → (get_or bs k 0 == 10) ≡ true → ⊥) → no_lf bs ≡ true
no_lf-from bs none = list_all-from_AllPass (λ b. not (b == 10)) bs
    (All-from_get_or (λ b. not (b == 10) ≡ true) bs 0 (λ k h. ap not (false_from_ne_true (get_or bs k 0 == 10) (none k (omega arith) h))))

pub no_lf-take : (bs : List ℕ) (n : ℕ) → ((k : ℕ) → 0 ≤ k → k < n → (get_or bs k 0 == 10) ≡ true → ⊥) → no_lf (take n bs) ≡ true
no_lf-take bs n none = no_lf-from (take n bs) (λ k l h.
    let below : k < n = omega (arith, length-take n bs) in rw (get_or-take n bs k 0 below) (none k l below))

-- the bytes before a place, the byte there, and those behind it
pub parted : (bs : List ℕ) (n : ℕ) → n < length bs → bs ≡ take n bs ++ get_or bs n 0 ∷ drop (n + 1) bs
parted bs n l = grind (arith, common_steps)

-- the first line of bytes whose first LF stands at a place
pub cut_at : (bs : List ℕ) (n : ℕ) → n < length bs → ((k : ℕ) → 0 ≤ k → k < n → (get_or bs k 0 == 10) ≡ true → ⊥) → get_or bs n 0 ≡ 10 →
    physical_lines bs ≡ without_cr (take n bs) ∷ physical_lines (drop (n + 1) bs)
cut_at bs n l none e =
    let parts : bs ≡ take n bs ++ 10 ∷ drop (n + 1) bs = parted bs n l ∙ ap (λ b. take n bs ++ b ∷ drop (n + 1) bs) e in
    ap physical_lines parts ∙ front (take n bs) (drop (n + 1) bs) (no_lf-take bs n none)
