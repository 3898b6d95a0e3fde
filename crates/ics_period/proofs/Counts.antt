-- Laws of counting, by which places and counts are found without walking each second.
use Rattle.std.proofs.Common.{◌≡◌, ℕ, zero, suc, ◌+◌, ◌-◌, ◌*◌, ◌/◌, ◌%◌, ◌^◌, ◌<◌, ◌≤◌, Bool, true, false, ◌==◌, ◌&&◌, cond, List, get_or, nat_lt}
use Rattle.std.proofs.Common.{count_ones, refl, sym, ap, ◌∙◌, arith}
use Rattle.std.proofs.lemmas.Bool.Decides.{nat_tests}
use Rattle.std.proofs.lemmas.Nat.{div-mul-add, mod-mul-add, mod-pow-add, ones_cat, pow_pos}
use Rattle.std.proofs.Math.Nat.{add_comm, mod-lt}
use Rattle.std.specs.Int.Count.{ones-ones}
use Rattle.ics_fields.specs.Sets.{contains, contains_wide}
use Rattle.ics_period.specs.Ranks.{count}

-- tests that agree below n count alike
pub count-same : (n : ℕ) (p q : ℕ → Bool) → ((m : ℕ) → m < n → p m ≡ q m) → count n p ≡ count n q
unfolding count
count-same zero p q h = refl
count-same (suc n) p q h = rw (h n (omega arith)) (ap (λ c. c + cond (q n) 1 0) (count-same n p q (λ m l. h m (omega arith))))

-- one number, and one number more
pub count-suc : (n : ℕ) (p : ℕ → Bool) → count (suc n) p ≡ count n p + cond (p n) 1 0
unfolding count
count-suc n p = refl

-- a range in two parts
pub count-add : (a n : ℕ) (p : ℕ → Bool) → count (a + n) p ≡ count a p + count n (λ k. p (a + k))
unfolding count
count-add a zero p = let e : a + 0 ≡ a = omega arith in rw e (omega arith)
count-add a (suc n) p = let e : a + suc n ≡ suc (a + n) = omega arith in rw e (omega (arith, count-add a n p))

-- what agrees from one number on counts alike from there
pub count_between : {from before : ℕ} (total : ℕ) (f g : ℕ → Bool) → from ≤ before → ((m : ℕ) → from ≤ m → m < before → f m ≡ g m) → total + count from f
    ≡ count before f → total + count from g ≡ count before g
count_between {from = from} {before = before} total f g h same e =
    let rest = count-same (before - from) (λ k. f (from + k)) (λ k. g (from + k)) (λ k l. same (from + k) (omega arith) (omega (arith, l, h))) in
    grind (arith, count-add from (before - from) f, count-add from (before - from) g)

-- a test that nothing passes
pub count-none : (n : ℕ) (p : ℕ → Bool) → ((m : ℕ) → m < n → p m ≡ false) → count n p ≡ 0
unfolding count
count-none zero p h = refl
count-none (suc n) p h = rw (h n (omega arith)) (omega (arith, count-none n p (λ m l. h m (omega arith))))

-- what nothing passes in front need not be walked
pub count-from : (a n : ℕ) (p : ℕ → Bool) → ((m : ℕ) → m < a → p m ≡ false) → count (a + n) p ≡ count n (λ k. p (a + k))
count-from a n p h = omega (arith, count-add a n p, count-none a p h)

-- a test that does not read the number
pub count-all : (b : Bool) (n : ℕ) (q : ℕ → Bool) → count n (λ k. b && q k) ≡ cond b 1 0 * count n q
unfolding count
count-all true n q = omega arith
count-all false n q = count-none n (λ k. false) (λ m l. refl) ∙ omega arith

-- one more block of b
one_more : (d b : ℕ) (p : ℕ → Bool) → count (suc d * b) p ≡ count (d * b) p + count b (λ k. p (d * b + k))
one_more d b p = let e : suc d * b ≡ d * b + b = omega arith in rw e (count-add (d * b) b p)

-- a test of the part / b and of the part % b is counted as a product, and so are the first t of block d
pub count-block : (d b t : ℕ) (p q : ℕ → Bool) → t ≤ b → count t (λ k. p ((d * b + k) / b) && q ((d * b + k) % b)) ≡ cond (p d) 1 0 * count t q
count-block d b t p q h =
    count-same t (λ k. p ((d * b + k) / b) && q ((d * b + k) % b)) (λ k. p d && q k)
    (λ k l. rw (div-mul-add d b k (omega arith), mod-mul-add d b k (omega arith)) refl) ∙ count-all (p d) t q

pub count-product : (d b : ℕ) (p q : ℕ → Bool) → count (d * b) (λ m. p (m / b) && q (m % b)) ≡ count d p * count b q
count-product zero b p q = let e : 0 * b ≡ 0 = omega arith in rw e (unfold count in omega arith)
count-product (suc d) b p q =
    let block = count-block d b b p q (omega arith) in
    omega (arith, one_more d b (λ m. p (m / b) && q (m % b)), count-product d b p q, block, ap (λ x. x * count b q) (count-suc d p))

-- more of the numbers, more that pass
pub count_one : (b : Bool) → b ≡ true → ◌≡◌ {A = ℕ} (cond b 1 0) 1
count_one b e = let f : Bool → ℕ = λ z. cond z 1 0 in ap f e

pub count_none_at : (b : Bool) → b ≡ false → ◌≡◌ {A = ℕ} (cond b 1 0) 0
count_none_at b e = let f : Bool → ℕ = λ z. cond z 1 0 in ap f e

-- a test that a number below n passes is counted
pub count_some : (n m : ℕ) (test : ℕ → Bool) → m < n → test m ≡ true → 0 < count n test
count_some n m test h e = grind (arith, count-add (suc m) (n - suc m) test, count-suc, count_one)

pub count_mono : (n m : ℕ) (test : ℕ → Bool) → n ≤ m → count n test ≤ count m test
count_mono n m test h = grind (arith, count-add n (m - n) test)

pub count_one_more : (n m : ℕ) (test : ℕ → Bool) → n ≤ m → test m ≡ true → count n test + 1 ≤ count (suc m) test
count_one_more n m test h e = grind (arith, count-suc, count_mono, count_one)

pub count_most : (n : ℕ) (test : ℕ → Bool) → count n test ≤ n
unfolding count
count_most zero test = omega arith
count_most (suc n) test = grind (arith, count_most n test)

pub count_every : (n : ℕ) → count n (λ m. true) ≡ n
unfolding count
count_every zero = refl
count_every (suc n) = omega (arith, count_every n)

-- the digits of a word below a number are counted as its members are
ones_of_digit : (b : ℕ) → b < 2 → count_ones b ≡ cond (b == 1) 1 0
ones_of_digit zero h = ones-ones 0
ones_of_digit (suc zero) h = ones-ones 1
ones_of_digit (suc (suc b)) h = absurd (omega (arith, h))

pub count_of_ones : (n s : ℕ) → count_ones (s % 2 ^ n) ≡ count n (contains s)
unfolding count
count_of_ones zero s = let none : s % 2 ^ 0 ≡ 0 = omega arith in ap count_ones none ∙ ones-ones 0
count_of_ones (suc n) s =
    let e : suc n ≡ 1 + n = omega arith in
    let digit : s / 2 ^ n % 2 < 2 = omega arith in
    ap (λ x. count_ones (s % 2 ^ x)) e
    ∙ ap count_ones (mod-pow-add s 1 n)
    ∙ ones_cat n (s / 2 ^ n % 2) (s % 2 ^ n) (mod-lt s (pow_pos n))
    ∙ ap (λ x. x + count_ones (s % 2 ^ n)) (ones_of_digit (s / 2 ^ n % 2) digit)
    ∙ ap (λ x. cond (s / 2 ^ n % 2 == 1) 1 0 + x) (count_of_ones n s)
    ∙ add_comm (cond (s / 2 ^ n % 2 == 1) 1 0) (count n (contains s))

-- the members of a list of words, up to a place in a word
module _ (ws : List ℕ) (place n : ℕ) (inside : place < 6) (short : n ≤ 64) where
  in_word : (m : ℕ) → m < n → contains_wide ws (place * 64 + m) ≡ contains (get_or ws place 0) m
  in_word m h =
      let small : m < 64 = omega (arith, short, h) in
      let low : nat_lt (place * 64 + m) 384 ≡ true = grind (arith, nat_tests) in
      ap (λ x. x && contains (get_or ws ((place * 64 + m) / 64) 0) ((place * 64 + m) % 64)) low
      ∙ ap (λ w. contains (get_or ws w 0) ((place * 64 + m) % 64)) (div-mul-add place 64 m small)
      ∙ ap (contains (get_or ws place 0)) (mod-mul-add place 64 m small)

  pub count_to_word : {total word ones : ℕ} → total ≡ count (place * 64) (contains_wide ws) → word ≡ get_or ws place 0 → ones ≡ count_ones (word % 2 ^ n) →
      total + ones ≡ count (place * 64 + n) (contains_wide ws)
  count_to_word {total = total} {ones = ones} before is digits =
      let one = digits ∙ ap (λ w. count_ones (w % 2 ^ n)) is ∙ count_of_ones n (get_or ws place 0) in
      let same = count-same n (λ k. contains_wide ws (place * 64 + k)) (contains (get_or ws place 0)) in_word in
      ap (λ x. x + ones) before
      ∙ ap (λ x. count (place * 64) (contains_wide ws) + x) (one ∙ sym same)
      ∙ sym (count-add (place * 64) n (contains_wide ws))
