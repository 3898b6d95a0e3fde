-- The bits of a word of sixty seconds.
use Rattle.std.proofs.Common.{◌≡◌, ◌≢◌, max, ℕ, ◌+◌, ◌-◌, ◌*◌, ◌/◌, ◌%◌, ◌^◌, ◌<◌, Bool, true, false, ◌==◌, ◌||◌, ◌&&◌, nat_lt, sym, int_lt}
use Rattle.std.proofs.Common.{subst, ap, ◌∙◌, arith, w64, bit_or, bit_and, ℤ, ◌<ℤ◌}
use Rattle.std.proofs.lemmas.Bool.{cases_lt, ltb-true, lt-ltb, le-ltb, and_parts}
use Rattle.std.specs.Int.{bit_at, trailing_zeros}
use Rattle.std.proofs.lemmas.Bool.Decides.{nat_tests}
use Rattle.std.proofs.lemmas.Int.{ints}
use Rattle.std.proofs.lemmas.Nat.{pow_pos, shr-shr, shl_whole}
use Rattle.std.proofs.lemmas.Nat.Bits.{bit_at_and, bit_at_or, bit_at_not, bit_at-zero, bit_at-lt, bit_at_cat_low, bit_at_cat_high, bit_at-trailing_zeros}
use Rattle.ics_fields.specs.Sets.{contains}
use Rattle.ics_fields.proofs.SetLemmas.{contains-or_bit, contains-front, has_above}
use Rattle.ics_zone.proofs.Cases.{less_or_not_z, true_int_lt, false_int_lt}

bit_zero : (s n : ℕ) → contains s n ≡ false → bit_at s n ≡ 0
bit_zero s n h = let low = bit_at-lt s n in grind (arith, nat_tests)

bit_one : (s n : ℕ) → contains s n ≡ true → bit_at s n ≡ 1
bit_one s n h = grind (arith, nat_tests)

-- the digits of a word that are below a size
pub contains-first : (s k n : ℕ) → contains (s % 2 ^ k) n ≡ (nat_lt n k && contains s n)
contains-first s k n = grind (arith, nat_tests, ints, cases_lt, contains-front, has_above, le-ltb, lt-ltb, pow_pos)

-- a set with one number more, below a bound that is one more
more : (m n : ℕ) (b : Bool) → (m ≡ n → b ≡ true) → ((m == n) || (nat_lt m n && b)) ≡ (nat_lt m (n + 1) && b)
more m n b is = grind (arith, nat_tests)

same : (m n : ℕ) (b : Bool) → (m ≡ n → b ≡ false) → (nat_lt m n && b) ≡ (nat_lt m (n + 1) && b)
same m n b is = grind (arith, nat_tests)

module _ (set word n : ℕ) (old : (m : ℕ) → contains word m ≡ (nat_lt m n && contains set m)) where
  pub word_more : n < 64 → contains set n ≡ true → (m : ℕ) → contains (bit_or word (1 * 2 ^ n % 18446744073709551616)) m ≡ (nat_lt m (n + 1) && contains set m)
  word_more small is m = let was = old m in grind (arith, nat_tests, contains-or_bit, more)

  pub word_same : contains set n ≡ false → (m : ℕ) → contains word m ≡ (nat_lt m (n + 1) && contains set m)
  word_same is m = old m ∙ same m n (contains set m) (λ e. subst (λ x. contains set x ≡ false) (sym e) is)

-- a minute that begins at a second of another
module _ (here next from first part : ℕ) (small : from < 60) (is_first : (n : ℕ) → contains first n ≡ (nat_lt n 60 && contains here n))
    (is_part : (n : ℕ) → contains part n ≡ (nat_lt n from && contains next n)) (bound : part < 2 ^ from) where
  joined_bit : (n : ℕ) → bit_at (bit_or (first / 2 ^ from) (part * 2 ^ (60 - from) % 18446744073709551616)) n
      ≡ max (bit_at first (n + from)) (bit_at (part * 2 ^ (60 - from) + 0) n)
  joined_bit n =
      let exact : part * 2 ^ (60 - from) % 18446744073709551616 ≡ part * 2 ^ (60 - from) = shl_whole part from (60 - from) 64 bound (omega arith) in
      let none : part * 2 ^ (60 - from) ≡ part * 2 ^ (60 - from) + 0 = omega arith in
      let order : from + n ≡ n + from = omega arith in
      ap (λ x. bit_at (bit_or (first / 2 ^ from) x) n) (exact ∙ none) ∙ bit_at_or (first / 2 ^ from) (part * 2 ^ (60 - from) + 0) n
      ∙ ap (λ x. max x (bit_at (part * 2 ^ (60 - from) + 0) n)) (ap (λ x. x % 2) (shr-shr first from n) ∙ ap (bit_at first) order)

  pub shifted_here : (n : ℕ) → n + from < 60 → contains (bit_or (first / 2 ^ from) (part * 2 ^ (60 - from) % 18446744073709551616)) n ≡ contains here (n + from)
  shifted_here n low = grind (arith, nat_tests, ints, bit_at-zero, bit_at_cat_low, joined_bit, lt-ltb)

  pub shifted_next : (n m : ℕ) → m < from → n + from ≡ m + 60
      → contains (bit_or (first / 2 ^ from) (part * 2 ^ (60 - from) % 18446744073709551616)) n ≡ contains next m
  shifted_next n m low at =
      let past = is_first (n + from) in
      let own = is_part m in
      let there = bit_at_cat_high part (60 - from) 0 n (pow_pos (60 - from)) (omega arith) in
      let place : n - (60 - from) ≡ m = omega arith in
      grind (arith, nat_tests, bit_zero, joined_bit, le-ltb, lt-ltb)

-- the seconds of a word that another does not have
module _ (word other rest : ℕ) (fits : other < 18446744073709551616)
    (is : (n : ℕ) → contains rest n ≡ (nat_lt n 60 && contains (bit_and word (18446744073709551615 - other)) n)) where
  pub all_inside : (n : ℕ) → n < 60 → contains rest n ≡ false → contains word n ≡ true → contains other n ≡ true
  all_inside n low none there =
      let part = is n in
      let both = bit_at_and word (18446744073709551615 - other) n in
      let not = bit_at_not w64 other n fits (omega arith) in
      let small = bit_at-lt other n in
      grind (arith, nat_tests, lt-ltb, bit_zero, bit_one)

  pub first_place : rest ≢ 0 → rest < 18446744073709551616
      → (trailing_zeros w64 rest < 60) × ((n : ℕ) → n < trailing_zeros w64 rest → contains word n ≡ true → contains other n ≡ true)
  first_place some small =
      let first = bit_at-trailing_zeros w64 rest (omega arith) small in
      let there : (nat_lt (trailing_zeros w64 rest) 60 && contains (bit_and word (18446744073709551615 - other)) (trailing_zeros w64 rest)) ≡ true =
      sym (is (trailing_zeros w64 rest)) ∙ ap (λ x. x == 1) first.1 in
      let low : trailing_zeros w64 rest < 60 = ltb-true (trailing_zeros w64 rest) 60 (and_parts _ _ there).0 in
      (low, λ n less. all_inside n (omega arith) (ap (λ x. x == 1) (first.2 n less)))

-- so many seconds of a minute
pub first_seconds : (n size : ℕ) (at count : ℤ) → (n < size → at <ℤ count) → (at <ℤ count → n < size) → nat_lt n size ≡ int_lt at count
first_seconds n size at count down up = grind (arith, nat_tests, ints, cases_lt, false_int_lt, le-ltb, less_or_not_z, lt-ltb, more, true_int_lt)

-- the digits of two words
pub contains-or : (a b n : ℕ) → contains (bit_or a b) n ≡ (contains a n || contains b n)
contains-or a b n = grind (arith, nat_tests, ints, bit_at-lt, bit_at_or)
