-- What a further local leaves as it was.
use native.Mathlib.Numerals.{unary_clauses}
use Rattle.std.proofs.Common.{◌≡◌, ℕ, Bool, zero, suc, ◌+◌, ◌<◌, ◌≤◌, List, length, get_or, set, refl, sym, ap, subst, ◌∙◌, ⊎_elim, arith}
use Rattle.std.proofs.lemmas.List.{get_or-set_same, get_or-set_other}
use Rattle.std.proofs.lemmas.Bool.{cases_lt}
use Rattle.khal_list_c.specs.Times.{place, AreNext, IsNextOf}

pub place-set : (from : ℕ) (times : List ℕ) (k v i : ℕ) → i ≤ k → place from (set times k v) i ≡ place from times i
place-set from times k v zero le = refl
place-set from times k v (suc j) le = ap (λ n. n + 1) (get_or-set_other times k j v 0 (λ same. omega arith))

-- the next kept local after the first k is one more
pub AreNext-more : (test : ℕ → Bool) (from before : ℕ) (times : List ℕ) (k v : ℕ) → k < length times
    → AreNext test from before times k → IsNextOf test (place from times k) before v → AreNext test from before (set times k v) (k + 1)
AreNext-more test from before times k v room each next i low = ⊎_elim
    (λ less. subst (λ n. IsNextOf test (place from (set times k v) i) before n) (sym (get_or-set_other times k i v 0 (λ same. omega arith)))
    (subst (λ n. IsNextOf test n before (get_or times i 0)) (sym (place-set from times k v i (omega arith))) (each i less)))
    (λ more. let same : i ≡ k = omega arith in
    subst (λ j. IsNextOf test (place from (set times k v) j) before (get_or (set times k v) j 0)) (sym same)
    (subst (λ n. IsNextOf test (place from (set times k v) k) before n) (sym (get_or-set_same times k v 0 room))
    (subst (λ n. IsNextOf test n before v) (sym (place-set from times k v k (omega arith))) next)))
    (cases_lt i k)

pub place-more : (from : ℕ) (times : List ℕ) (k v : ℕ) → k < length times → place from (set times k v) (k + 1) ≡ v + 1
place-more from times k v room = simp unary_clauses (ap (λ n. suc n) (get_or-set_same times k v 0 room))

-- what a call that answers with a further local keeps of the loop
pub Fills-more : (test : ℕ → Bool) (from before : ℕ) (times : List ℕ) (k v now : ℕ) → k < length times → now ≡ v + 1
    → AreNext test from before times k → IsNextOf test (place from times k) before v
    → (now ≡ place from (set times k v) (k + 1)) × AreNext test from before (set times k v) (k + 1)
Fills-more test from before times k v now room after each next =
    (after ∙ sym (place-more from times k v room), AreNext-more test from before times k v room each next)
