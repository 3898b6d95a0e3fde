-- Members by their number, and the members at listed places.
use Rattle.std.proofs.Common.{◌≡◌, ℕ, zero, suc, ◌+◌, ◌-◌, ◌*◌, ◌/◌, ◌%◌, ◌<◌, ◌≤◌, inl, inr, Bool, true, false, cond, min, ◌&&◌, ◌||◌, List}
use Rattle.std.proofs.Common.{refl, sym, ap, ◌∙◌, arith}
use Rattle.std.proofs.lemmas.Bool.{cases_lt, false_from_ne_true}
use Rattle.std.proofs.lemmas.Nat.{div-add-mod'}
use Rattle.std.proofs.Math.Nat.{mod-lt, mul-le-mul_right}
use Rattle.std.proofs.lemmas.Bool.Decides.{nat_tests}
use Rattle.ics_fields.specs.Sets.{contains_wide, IsLeastFrom}
use Rattle.ics_fields.proofs.SetLemmas.{wide_past}
use Rattle.ics_period.specs.Ranks.{count}
use Rattle.ics_period.specs.RecurrencePeriods.{IsNth, IsFirstBelow, is_listed}
use Rattle.ics_period.specs.Candidates.{lists_wide}
use Rattle.ics_fields.specs.declared.ordinals.WideOrdinals.{WideOrdinals}
use Rattle.ics_period.proofs.Counts.{count-same, count-suc, count-add, count-none, count_mono, count_one_more, count_one, count_none_at, count_some}

-- what no number between two passes counts alike up to both
pub count_flat : (a b : ℕ) (test : ℕ → Bool) → a ≤ b → ((m : ℕ) → a ≤ m → m < b → test m ≡ false) → count b test ≡ count a test
count_flat a b test h none =
    let rest = count-none (b - a) (λ k. test (a + k)) (λ k l. none (a + k) (omega arith) (omega arith)) in
    grind (arith, count-add a (b - a) test)

-- a set has no member past its words
pub count_clamped : (ws : List ℕ) (n : ℕ) → count (min n 384) (contains_wide ws) ≡ count n (contains_wide ws)
count_clamped ws n = elim (cases_lt n 384) [
  | inl l ↦ let e : min n 384 ≡ n = omega (arith, l) in rw e refl
  | inr g ↦ let e : min n 384 ≡ 384 = omega (arith, g) in rw e (sym (count_flat 384 n (contains_wide ws) g (λ m low less. wide_past ws m low)))
]

-- what passes one of two tests, and what passes both
pub count_either : (n : ℕ) (f g : ℕ → Bool) → count n (λ m. f m || g m) + count n (λ m. f m && g m) ≡ count n f + count n g
unfolding count
count_either zero f g = refl
count_either (suc n) f g = grind (arith, count_either n f g)

pub count_both : (n : ℕ) (f g : ℕ → Bool) → count n (λ m. f m && g m) ≤ count n g
unfolding count
count_both zero f g = omega arith
count_both (suc n) f g = grind (arith, count_both n f g)

-- members by their number from 1, and by their number from the end
count_front : (k : ℕ) (test : ℕ → Bool) → count 1 test + count k (λ j. test (j + 1)) ≡ count (k + 1) test
unfolding count
count_front zero test = omega arith
count_front (suc k) test = let e : suc k + 1 ≡ suc (k + 1) = omega arith in rw e (omega (arith, count_front k test))

count_back : (size k : ℕ) (test : ℕ → Bool) → k ≤ size → count (size - k + 1) test + count k (λ j. test (size - j)) ≡ count (size + 1) test
unfolding count
count_back size zero test h = let e : size - 0 + 1 ≡ size + 1 = omega arith in rw e (omega arith)
count_back size (suc k) test h =
    let here : size - suc k + 1 ≡ size - k = omega (arith, h) in
    let next : size - k + 1 ≡ suc (size - k) = omega arith in
    let before = count_back size k test (omega (arith, h)) in
    rw here (omega (arith, rw next at before, count-suc (size - k) test))

-- how many of the first k places are listed, by the sets of both ends
abbrev pub is_twice : WideOrdinals → ℕ → ℕ → Bool
is_twice positions size j = contains_wide positions.front (j + 1) && contains_wide positions.back (size - j)

module _ (positions : WideOrdinals) (size k : ℕ) where
  is_either : (j : ℕ) → j < k → is_listed positions size j ≡ (contains_wide positions.front (j + 1) || contains_wide positions.back (size - j))
  is_either j h = let e : size + 1 - (j + 1) ≡ size - j = omega arith in rw e refl

  pub count_listed : (front back : ℕ) → k ≤ size → count 1 (contains_wide positions.front) + front ≡ count (k + 1) (contains_wide positions.front)
      → count (size - k + 1) (contains_wide positions.back) + back ≡ count (size + 1) (contains_wide positions.back)
      → (count k (is_listed positions size) + count k (is_twice positions size) ≡ front + back) × (count k (is_twice positions size) ≤ back)
  count_listed front back high one other =
      let by_front = count_front k (contains_wide positions.front) in
      let by_back = count_back size k (contains_wide positions.back) high in
      let same = count-same k (is_listed positions size) (λ j. contains_wide positions.front (j + 1) || contains_wide positions.back (size - j)) is_either in
      let sum = count_either k (λ j. contains_wide positions.front (j + 1)) (λ j. contains_wide positions.back (size - j)) in
      let most = count_both k (λ j. contains_wide positions.front (j + 1)) (λ j. contains_wide positions.back (size - j)) in
      (omega (arith, one, other, by_front, by_back, same, sum), omega (arith, other, by_back, most))

-- a walk along the places listed from the start: none is listed twice before the first that may be listed from the end too, nor between two
module _ (positions : WideOrdinals) (size k : ℕ) where
  not_twice : (j : ℕ) → contains_wide positions.front (j + 1) ≡ false → is_twice positions size j ≡ false
  not_twice j h = ap (λ x. x && contains_wide positions.back (size - j)) h

  too_far : (j : ℕ) → j < size - 383 → is_twice positions size j ≡ false
  too_far j h = grind (arith, wide_past positions.back (size - j))

  pub twice_begun : (next : ℕ) → IsFirstBelow (λ j. contains_wide positions.front (j + 1)) (size - 383) k next → 0 ≡ count next (is_twice positions size)
  twice_begun next first = sym (count-none next (is_twice positions size) (λ j h. elim (cases_lt j (size - 383)) [
    | inl far ↦ too_far j far
    | inr near ↦ not_twice j (first.none j near h)
  ]))

  pub twice_next : (place next : ℕ) → place < k → IsFirstBelow (λ j. contains_wide positions.front (j + 1)) (place + 1) k next
      → count next (is_twice positions size) ≡ count place (is_twice positions size) + cond (is_twice positions size place) 1 0
  twice_next place next high first =
      let after : place + 1 ≤ next = elim (cases_lt next k) [
        | inl l ↦ (first.found l).0
        | inr g ↦ omega (arith, g, high)
      ] in
      let e : place + 1 ≡ suc place = omega arith in
      count_flat (place + 1) next (is_twice positions size) after (λ j low less. not_twice j (first.none j low less))
      ∙ ap (λ m. count m (is_twice positions size)) e
      ∙ count-suc place (is_twice positions size)

-- where a range of one number has the k-th member, that is it
pub nth_last : (test : ℕ → Bool) (k low width : ℕ) → (count low test ≤ k) × ((k < count (low + width) test) × ((low + width ≤ 384) × (1 ≤ width))) →
    width ≤ 1 → IsNth test k low
nth_last test k low width is h = step (test low) refl
  where
    up : k < count (suc low) test
    up = let one : low + width ≡ suc low = omega (arith, is, h) in rw one at is.1.0

    step : (b : Bool) → test low ≡ b → IsNth test k low
    step true e = record { passes = e; before = omega (arith, is.0, up, count-suc low test, count_one (test low) e) }
    step false e = absurd (omega (arith, is.0, up, count-suc low test, count_none_at (test low) e))

-- the last that passes below a bound, and nothing from there to the bound
pub last_below : (test : ℕ → Bool) (bound : ℕ) {m : ℕ} → IsNth test (count bound test - 1) m → 1 ≤ count bound test → m < bound
last_below test bound {m} last some = elim (cases_lt m bound) [
  | inl l ↦ l
  | inr g ↦ absurd (let up = count_mono bound m test g in omega (arith, last.before, up, some))
]

pub none_past_last : (test : ℕ → Bool) (bound : ℕ) {m k : ℕ} → IsNth test (count bound test - 1) m → m < k → k < bound → test k ≡ false
none_past_last test bound {m} {k} last after h = false_from_ne_true (test k) (λ yes.
    let one = count_one_more m m test (omega arith) last.passes in
    let up = count_mono (suc m) k test after in
    let more = count_one_more k k test (omega arith) yes in
    let all = count_mono (suc k) bound test h in
    omega (arith, last.before, one, up, more, all))

pub none_below : (test : ℕ → Bool) (bound k : ℕ) → count bound test ≡ 0 → k < bound → test k ≡ false
none_below test bound k none h = false_from_ne_true (test k) (λ yes. let some = count_some bound k test h yes in omega (arith, none, some))

-- an index of a product, by the size of a block
pub block_index : (k a s : ℕ) → k < a * s → (k / s < a) × (k % s < s)
block_index k a s h = grind (arith, cases_lt, div-add-mod', mod-lt, mul-le-mul_right)

-- how many members at listed places come before n
pub count-ranked : (n : ℕ) (p listed : ℕ → Bool) → count n (λ m. p m && listed (count m p)) ≡ count (count n p) listed
unfolding count
count-ranked zero p listed = refl
count-ranked (suc n) p listed = step (p n) (count n p) (count n (λ m. p m && listed (count m p))) (count-ranked n p listed)
  where
    step : (b : Bool) (c x : ℕ) → x ≡ count c listed → x + cond (b && listed c) 1 0 ≡ count (c + cond b 1 0) listed
    step true c x e = let one : c + 1 ≡ suc c = omega arith in rw (one, e) refl
    step false c x e = let none : c + 0 ≡ c = omega arith in rw (none, e) (omega arith)

-- the k-th of those that pass
abbrev pub IsAt : (ℕ → Bool) → ℕ → ℕ → Type 0
IsAt test k m = (test m ≡ true) × (count (suc m) test ≡ k)

-- there is one for each k up to their number
pub found : (test : ℕ → Bool) (k end : ℕ) → 1 ≤ k → k ≤ count end test → (m : ℕ) × ((m < end) × IsAt test k m)
unfolding count
found test k zero low high = absurd (omega (arith, low, high))
found test k (suc end) low high = elim (cases_lt (count end test) k) [
  | inl last ↦ at_end (test end) refl last
  | inr before ↦ let m = found test k end low before in (m.0, (omega (arith, m.1.0), m.1.1))
]
  where
    at_end : (b : Bool) → test end ≡ b → count end test < k → (m : ℕ) × ((m < suc end) × IsAt test k m)
    at_end b h l = grind (arith, nat_tests, count_none_at, count_one)

-- the rank of one that passes is one more than how many pass before it
pub rank_listed : (positions : WideOrdinals) (p : ℕ → Bool) (k n : ℕ)
    → (p k && lists_wide positions (count (suc k) p) n) ≡ (p k && is_listed positions n (count k p))
rank_listed positions p k n = grind (arith, count-suc k p, count_one (p k))

-- of the numbers below len that pass, those at a place that BYSETPOS lists, or all if it is absent
abbrev pub placed_of : WideOrdinals → Bool → (ℕ → Bool) → ℕ → ℕ → Bool
placed_of positions true test len k = test k
placed_of positions false test len k = test k && is_listed positions (count len test) (count k test)

-- the next of them is the member with the next listed number
module _ (p listed : ℕ → Bool) (n : ℕ) where
  abbrev test : ℕ → Bool
  test m = p m && listed (count m p)

  pub next_ranked : (i m : ℕ) → IsLeastFrom listed (count n p) i → IsNth p i m → IsLeastFrom test n m
  next_ranked i m next nth = grind (arith, nat_tests, cases_lt, count_mono, count_one_more)

  pub none_ranked : {size : ℕ} (bound : ℕ) → size ≡ count bound p → ((m : ℕ) → bound ≤ m → p m ≡ false)
      → ((k : ℕ) → count n p ≤ k → k < size → listed k ≡ false) → (m : ℕ) → n ≤ m → test m ≡ false
  none_ranked bound all past none m low =
      let more = count_one_more m m p (omega arith) in
      let up = count_mono (suc m) bound p in
      let begun = count_mono n m p low in
      grind (arith, nat_tests)
