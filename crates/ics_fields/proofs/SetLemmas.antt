-- What adding a member does to a set.
use Rattle.std.proofs.Common.{◌≡◌, refl, ℕ, zero, suc, ◌+◌, ◌-◌, ◌*◌, ◌/◌, ◌%◌, ◌^◌, ◌<◌, ◌≤◌, inl, inr, ◌==◌, ◌||◌, ◌&&◌, nat_lt, ◌≢◌}
use Rattle.std.proofs.Common.{Bool, true, false, List, length, get_or, set, replicate, ⊎_elim}
use Rattle.std.proofs.Common.{ap, sym, ◌∙◌, arith, w64, bit_or, get_or-set_same, get_or-set_other}
use Rattle.std.proofs.lemmas.Bool.Decides.{nat_tests}
use Rattle.std.proofs.lemmas.Nat.Bits.{bit_at_set_same, bit_at_set_other, bit_at_above, bit_at-zero, bit_at-trailing_zeros, bit_at_cat_low, bit_at_ones}
use Rattle.std.proofs.lemmas.Bool.{and_right, both_ways, cases_eq, cases_lt, eqb-true, le-ltb, or_cases}
use Rattle.std.proofs.lemmas.Nat.{one_shl, pow-add, div-add-mod'}
use Rattle.std.proofs.Math.Nat.{div-div-eq-div-mul, div-le_self}
use Rattle.std.specs.Int.{trailing_zeros}
use Rattle.ics_fields.specs.Sets.{contains, contains_wide, none_wide, with_number, with_wide_number, IsWithin, IsLeastFrom}

-- a word with the bit n set
pub contains-or_bit : (s n m : ℕ) → n < 64 → contains (bit_or s (1 * 2 ^ n % 18446744073709551616)) m ≡ (m == n) || contains s m
contains-or_bit s n m h = elim (cases_eq m n) [
  | inl e ↦ rw e (let one = bit_at_set_same w64 s n h in grind (arith, nat_tests))
  | inr ne ↦ let other = bit_at_set_other w64 s n h m ne in grind (arith, nat_tests)
]

-- a set with a number added has that number and its own
pub with_number-is : (s n : ℕ) → n < 64 → bit_or s (1 * 2 ^ n % 18446744073709551616) ≡ with_number n s
with_number-is s n h = ap (bit_or s) (one_shl n 64 h)

pub contains-with_number : (s n m : ℕ) → n < 64 → contains (with_number n s) m ≡ (m == n) || contains s m
contains-with_number s n m h = ap (λ x. contains x m) (sym (with_number-is s n h)) ∙ contains-or_bit s n m h

same_in_word : (m n : ℕ) → m / 64 ≡ n / 64 → (m % 64 == n % 64) ≡ (m == n)
same_in_word m n e = grind (arith, nat_tests)

-- a digit of a list of words
abbrev has_digit : List ℕ → ℕ → Bool
has_digit ws n = contains (get_or ws (n / 64) 0) (n % 64)

-- words of which one has the bit set
has_digit-set : (ws : List ℕ) (n m : ℕ) → n / 64 < length ws →
    has_digit (set ws (n / 64) (bit_or (get_or ws (n / 64) 0) (1 * 2 ^ (n % 64) % 18446744073709551616))) m ≡ (m == n) || has_digit ws m
has_digit-set ws n m h = elim (cases_eq (m / 64) (n / 64)) [
  | inl e ↦ rw (e, get_or-set_same) (contains-or_bit (get_or ws (n / 64) 0) (n % 64) (m % 64) (omega arith)
      ∙ ap (λ b. b || contains (get_or ws (n / 64) 0) (m % 64)) (same_in_word m n e))
  | inr ne ↦ rw (get_or-set_other) (let differ : m ≢ n = λ e. ne (ap (λ x. x / 64) e) in grind (arith, nat_tests))
]

pub contains_wide-set : (ws : List ℕ) (n m : ℕ) → n / 64 < length ws → n < 384 →
    contains_wide (set ws (n / 64) (bit_or (get_or ws (n / 64) 0) (1 * 2 ^ (n % 64) % 18446744073709551616))) m ≡ (m == n) || contains_wide ws m
contains_wide-set ws n m h low = ap (λ x. nat_lt m 384 && x) (has_digit-set ws n m h) ∙ within m n (has_digit ws m) low
  where
    within : (m n : ℕ) (b : Bool) → n < 384 → (nat_lt m 384 && ((m == n) || b)) ≡ ((m == n) || (nat_lt m 384 && b))
    within m n b low = grind (arith, nat_tests)

-- no member lies past the end
pub wide_past : (ws : List ℕ) (m : ℕ) → 384 ≤ m → contains_wide ws m ≡ false
wide_past ws m h = ap (λ x. x && has_digit ws m) (le-ltb m 384 h)

pub with_wide_number-is : (ws : List ℕ) (n : ℕ) → set ws (n / 64) (bit_or (get_or ws (n / 64) 0) (1 * 2 ^ (n % 64) % 18446744073709551616))
    ≡ with_wide_number n ws
with_wide_number-is ws n = ap (λ x. set ws (n / 64) x) (with_number-is (get_or ws (n / 64) 0) (n % 64) (omega arith))

pub contains_wide-with_number : (ws : List ℕ) (n m : ℕ) → n / 64 < length ws → n < 384 →
    contains_wide (with_wide_number n ws) m ≡ (m == n) || contains_wide ws m
contains_wide-with_number ws n m h low = ap (λ x. contains_wide x m) (sym (with_wide_number-is ws n)) ∙ contains_wide-set ws n m h low

-- a number from low to high
pub record IsFrom (low high n : ℕ) : Type 0 where
  pub first : low ≤ n
  pub last : n ≤ high

-- a number in its range keeps a set in it
pub within_more : {low high n : ℕ} (test more : ℕ → Bool) → ((m : ℕ) → more m ≡ (m == n) || test m) → IsWithin low high test → IsFrom low high n →
    IsWithin low high more
within_more {low} {high} {n} test more each own is m e =
    ⊎_elim (λ here. let same : m ≡ n = eqb-true m n here in (omega arith, omega arith)) (λ old. own m old) (or_cases (m == n) (test m) (sym (each m) ∙ e))

-- the digits of a shifted word are those further on
contains-shift : (s n i : ℕ) → contains (s / 2 ^ n) i ≡ contains s (n + i)
contains-shift s n i = ap (λ x. x % 2 == 1) (div-div-eq-div-mul s (2 ^ n) (2 ^ i) ∙ ap (λ x. s / x) (sym (pow-add 2 n i)))

-- no digit of a word stands at 64 or later
pub has_above : (s k m : ℕ) → s < 2 ^ k → k ≤ m → contains s m ≡ false
has_above s k m h l = ap (λ x. x == 1) (bit_at_above s k m h l)

-- the empty set has no member
pub has_none : (n : ℕ) → contains 0 n ≡ false
has_none n = ap (λ x. x == 1) (bit_at-zero n)

-- the digits from n on are those of the shifted word
contains-later : (s n m : ℕ) → n ≤ m → contains s m ≡ contains (s / 2 ^ n) (m - n)
contains-later s n m l = let e : m ≡ n + (m - n) = omega arith in ap (contains s) e ∙ sym (contains-shift s n (m - n))

-- a set whose shifted word is 0 has no later member
pub none_later : (s n m : ℕ) → s / 2 ^ n ≡ 0 → n ≤ m → contains s m ≡ false
none_later s n m h l = contains-later s n m l ∙ (ap (λ x. contains x (m - n)) h ∙ has_none (m - n))

-- the lowest digit of the shifted word is the next member
pub next_member : (s n : ℕ) → s < 2 ^ 64 → s / 2 ^ n ≢ 0 → IsLeastFrom (contains s) n (n + trailing_zeros w64 (s / 2 ^ n))
next_member s n h some =
    let low : s / 2 ^ n ≤ s = div-le_self s (2 ^ n) in
    let first = bit_at-trailing_zeros w64 (s / 2 ^ n) (omega arith) (omega arith) in
    record {
      passes = sym (contains-shift s n (trailing_zeros w64 (s / 2 ^ n))) ∙ ap (λ x. x == 1) first.1;
      low = omega arith;
      least = λ m l u. contains-later s n m l ∙ ap (λ x. x == 1) (first.2 (m - n) (omega arith));
    }

-- members lie below the size of the word
pub member_below : (s k m : ℕ) → s < 2 ^ k → contains s m ≡ true → m < k
member_below s k m h t = ⊎_elim (λ l. l) (λ g. absurd (both_ways (contains s m) (has_above s k m h g) t)) (cases_lt m k)

-- the members below a size
pub contains-front : (s k m : ℕ) → m < k → contains (s % 2 ^ k) m ≡ contains s m
contains-front s k m h = ap (λ x. x == 1) (sym (bit_at_cat_low (s / 2 ^ k) k (s % 2 ^ k) m h)) ∙ ap (λ x. contains x m) (div-add-mod' s (2 ^ k))

pub contains-below : (k m : ℕ) → m < k → contains (2 ^ k - 1) m ≡ true
contains-below k m h = ap (λ x. x == 1) (bit_at_ones k m h)

-- no member from n on lies below a bound
abbrev pub NoneBelow : List ℕ → ℕ → ℕ → Type 0
NoneBelow ws n bound = (m : ℕ) → n ≤ m → m < bound → contains_wide ws m ≡ false

-- a list of one thing has it at each place, and past its end by default
pub same_at : {A : Type 0} (n k : ℕ) (x : A) → get_or (replicate n x) k x ≡ x
same_at zero k x = refl
same_at (suc n) zero x = refl
same_at (suc n) (suc k) x = same_at n k x

pub none_wide_has : (n : ℕ) → contains_wide none_wide n ≡ false
none_wide_has n = ap (λ x. nat_lt n 384 && x) (ap (λ x. contains x (n % 64)) (same_at 6 (n / 64) 0) ∙ has_none (n % 64)) ∙ and_right (nat_lt n 384) false refl
