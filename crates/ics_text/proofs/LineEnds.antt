-- The bytes before the first LF.
use Rattle.std.proofs.Common.{◌≡◌, ◌≢◌, ℕ, zero, suc, ◌+◌, ◌<◌, ◌≤◌, Bool, true, false, ◌==◌, List, [], ◌∷◌, length, take, drop, get_or, sym, ◌∙◌, arith}
use Rattle.std.proofs.Common.{inl, inr, not}
use Rattle.std.specs.List.{prefix_len}
use Rattle.std.proofs.lemmas.Bool.{cases_Bool, eqb-true, false≢true, not-false, not-true}
use Rattle.std.proofs.lemmas.List.Sums.{prefix_len_passes, prefix_len_stops}
use Rattle.ics_text.specs.Bytes.{in_line}

-- where the first n elements pass the test, and where they do not
pub goes_past : {X : Type 0} (p : X → Bool) (n : ℕ) (ys : List X) → n ≤ length ys → prefix_len p (take n ys) ≡ n →
    prefix_len p ys ≡ n + prefix_len p (drop n ys)
goes_past p zero ys within all = omega arith
goes_past p (suc n) [] within all = absurd (omega (arith, within))
goes_past p (suc n) (y ∷ ys) within all = elim (cases_Bool (p y)) [
  | inl passes ↦ rw passes
      (let rest = rw passes at all in let on = goes_past p n ys (omega (arith, within)) (omega (arith, rest)) in omega (arith, on))
  | inr stops ↦ let never = rw stops at all in absurd (omega (arith, never))
]

pub stops_within : {X : Type 0} (p : X → Bool) (n : ℕ) (ys : List X) → prefix_len p (take n ys) < n → n ≤ length ys →
    prefix_len p ys ≡ prefix_len p (take n ys)
stops_within p zero ys less within = absurd (omega (arith, less))
stops_within p (suc n) [] less within = absurd (omega (arith, within))
stops_within p (suc n) (y ∷ ys) less within = elim (cases_Bool (p y)) [
  | inl passes ↦ rw passes
      (let rest = rw passes at less in let on = stops_within p n ys (omega (arith, rest)) (omega (arith, within)) in omega (arith, on))
  | inr stops ↦ rw stops (omega arith)
]

-- no byte before the end of the line is an LF, and the one there is
pub none-before : (bytes : List ℕ) (len : ℕ) → len ≡ prefix_len in_line bytes → (k : ℕ) → 0 ≤ k → k < len → (get_or bytes k 0 == 10) ≡ true → ⊥
none-before bytes len is k low before end =
    let other : (get_or bytes k 0 == 10) ≡ false = not-true (get_or bytes k 0 == 10) (prefix_len_passes in_line bytes k 0 (omega (arith, is, before))) in
    false≢true (sym other ∙ end)

pub lf-there : (bytes : List ℕ) (len : ℕ) → len ≡ prefix_len in_line bytes → len < length bytes → get_or bytes len 0 ≡ 10
lf-there bytes len is within =
    rw is (eqb-true (get_or bytes (prefix_len in_line bytes) 0) 10
    (not-false (get_or bytes (prefix_len in_line bytes) 0 == 10) (prefix_len_stops in_line bytes 0 (omega (arith, is, within)))))
