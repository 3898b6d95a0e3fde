-- Bounds of counts, and counts of tests that repeat.
use Rattle.std.proofs.Common.{◌≡◌, ℕ, zero, suc, ◌+◌, ◌-◌, ◌*◌, ◌/◌, ◌%◌, ◌<◌, ◌≤◌, Bool, true, ◌&&◌, ◌||◌, ◌==◌, nat_le, max, cond, ap, ◌∙◌, arith}
use Rattle.std.proofs.lemmas.Bool.{and_parts, eqb-true, false_from_ne_true}
use Rattle.std.proofs.lemmas.Bool.Decides.{nat_tests}
use Rattle.ics_fields.specs.Locals.{calendar_end}
use Rattle.ics_period.specs.declared.effective_rule.EffectiveRule.{EffectiveRule}
use Rattle.ics_period.specs.PeriodNumbers.{day_of}
use Rattle.ics_period.specs.Candidates.{lets_date, lets_clock, is_candidate_in, in_step, period_in}
use Rattle.ics_period.specs.Ranks.{count, is_beside, size}
use Rattle.ics_period.proofs.Counts.{count-same, count-suc, count-add, count-none, count-from, count-product, count_every, count_mono}
use Rattle.ics_period.proofs.RankLemmas.{count_flat}

-- what passes one test passes another, so that no more pass it
pub count_fewer : (n : ℕ) (f g : ℕ → Bool) → ((m : ℕ) → m < n → f m ≡ true → g m ≡ true) → count n f ≤ count n g
unfolding count
count_fewer zero f g h = omega arith
count_fewer (suc n) f g h = let less = count_fewer n f g (λ m l. h m (omega (arith, l))) in more (f n) (g n) (h n (omega arith)) less
  where
    more : {x y : ℕ} (a b : Bool) → (a ≡ true → b ≡ true) → x ≤ y → x + cond a 1 0 ≤ y + cond b 1 0
    more a b h l = grind arith

-- the numbers from one on
pub count_later : (a d : ℕ) → count (a + d) (nat_le a) ≡ d
count_later a d =
    count-from a d (nat_le a) (λ m l. grind (arith, nat_tests))
    ∙ count-same d (λ k. nat_le a (a + k)) (λ k. true) (λ k l. grind (arith, nat_tests)) ∙ count_every d

pub both_true : (a b : Bool) → a ≡ true → b ≡ true → (a && b) ≡ true
both_true a b h e = grind arith

pub not_earlier : (a x : ℕ) → a ≤ x → nat_le a x ≡ true
not_earlier a x h = grind (arith, nat_tests)

-- tests that repeat after so many numbers count as many of these from any number on
pub count_cycle : (len : ℕ) (p : ℕ → Bool) → ((m : ℕ) → p (m + len) ≡ p m) → (s : ℕ) → count len (λ k. p (s + k)) ≡ count len p
count_cycle len p same zero = count-same len (λ k. p (0 + k)) p (λ k l. ap p (omega arith))
count_cycle len p same (suc s) =
    let before = count_cycle len p same s in
    let one = count-add s len p in
    let two = count-add (suc s) len p in
    let end = count-suc (s + len) p in
    let begin = count-suc s p in
    let alike : ◌≡◌ {A = ℕ} (cond (p (s + len)) 1 0) (cond (p s) 1 0) = (let f : Bool → ℕ = λ b. cond b 1 0 in ap f (same s)) in
    let sum = ap (λ x. count x p) (let e : suc s + len ≡ suc (s + len) = omega arith in e) in
    omega (arith, before, one, two, end, begin, alike, sum)

-- the numbers up to one that are listed, by a list from the start and one from the end
module _ (f g : ℕ → Bool) (len : ℕ) where
  abbrev listed : ℕ → Bool
  listed k = f (k + 1) || g (len - k)

  one : (a b : Bool) → cond (a || b) 1 0 ≤ cond a 1 0 + cond b 1 0
  one a b = grind arith

  so_far : (n : ℕ) → n ≤ len → count n listed + count (len + 1 - n) g ≤ count (n + 1) f + count (len + 1) g
  so_far zero l =
      let none = count-none 0 listed (λ m l. absurd (omega (arith, l))) in
      let all = ap (λ x. count x g) (let e : len + 1 - 0 ≡ len + 1 = omega arith in e) in
      omega (arith, none, all)
  so_far (suc n) l =
      let before = so_far n (omega (arith, l)) in
      let more = count-suc n listed in
      let early = count-suc (n + 1) f in
      let late = count-suc (len - n) g in
      let here = ap (λ x. count x g) (let e : len + 1 - n ≡ suc (len - n) = omega (arith, l) in e) in
      let next = ap (λ x. count x g) (let e : len + 1 - suc n ≡ len - n = omega arith in e) in
      let up = ap (λ x. count x f) (let e : suc n + 1 ≡ suc (n + 1) = omega arith in e) in
      omega (arith, before, more, early, late, here, next, up, one (f (n + 1)) (g (len - n)))

  pub listed_most : count len listed ≤ count (len + 1) f + count (len + 1) g
  listed_most = let all = so_far len (omega arith) in omega (arith, all)

-- a test that repeats after a repeats after each multiple
pub repeats_often : (f : ℕ → Bool) {low : ℕ} (a : ℕ) → ((n : ℕ) → low ≤ n → f (n + a) ≡ f n) → (j n : ℕ) → low ≤ n → f (n + j * a) ≡ f n
repeats_often f a on zero n l = ap f (let same : n + 0 * a ≡ n = omega arith in same)
repeats_often f a on (suc j) n l = ap f (let same : n + suc j * a ≡ n + j * a + a = omega arith in same) ∙ on (n + j * a) (omega (arith, l))
    ∙ repeats_often f a on j n l

-- the members of whole rounds, of a test that repeats after each
pub count_rounds : (f : ℕ → Bool) {a : ℕ} (s : ℕ) → ((n : ℕ) → a ≤ n → f (n + s) ≡ f n) → (j : ℕ)
    → count (a + j * s) f ≡ count a f + j * count s (λ k. f (a + k))
count_rounds f {a = a} s on zero = let same : a + 0 * s ≡ a = omega arith in rw same (omega arith)
count_rounds f {a = a} s on (suc j) =
    let whole : a + suc j * s ≡ a + j * s + s = omega arith in
    let same = count-same s (λ k. f (a + j * s + k)) (λ k. f (a + k)) (λ k l. ap f (let order : a + j * s + k ≡ a + k + j * s = omega arith in order)
    ∙ repeats_often f {low = a} s on j (a + k) (omega arith)) in
    rw (whole, count-add (a + j * s) s f, same, count_rounds f {a = a} s on j) (omega arith)

-- Blocks of u locals, of which the last before `top` is the last that the period of n has a local in. A block with a day of it that the rule allows
-- passes a test, and so does the place in its block of each local whose time the rule allows.
module _ (q : EffectiveRule) (start n top u : ℕ) (t g : ℕ → Bool)
    (high : (m : ℕ) → period_in q m ≡ period_in q n → m < top * u)
    (opens : (m : ℕ) → period_in q m ≡ period_in q n → lets_date q (day_of m) ≡ true → t (m / u) ≡ true)
    (lets_in : (m : ℕ) → lets_clock q m ≡ true → g (m % u) ≡ true) where
  abbrev beside : ℕ → Bool
  beside = is_beside q start n

  here : (m : ℕ) → beside m ≡ true → period_in q m ≡ period_in q n
  here m is = eqb-true (period_in q m) (period_in q n) (and_parts (is_candidate_in q start m) (period_in q m == period_in q n) is).1

  parts : (m : ℕ) → beside m ≡ true → (lets_date q (day_of m) ≡ true) × (lets_clock q m ≡ true)
  parts m is =
      let candidate = (and_parts (is_candidate_in q start m) (period_in q m == period_in q n) is).0 in
      let both = and_parts (in_step q start m && lets_date q (day_of m)) (lets_clock q m) candidate in
      ((and_parts (in_step q start m) (lets_date q (day_of m)) both.0).1, both.1)

  pub in_blocks : size q start n ≤ count top t * count u g
  in_blocks =
      let end = top * u in
      let block = λ (m : ℕ). t (m / u) && g (m % u) in
      let up = count_mono calendar_end (max calendar_end end) beside (omega arith) in
      let flat = count_flat end (max calendar_end end) beside (omega arith)
      (λ m l h. false_from_ne_true (beside m) (λ is. let early = high m (here m is) in omega (arith, early, l))) in
      let fewer = count_fewer end beside block (λ m l is.
      both_true (t (m / u)) (g (m % u)) (opens m (here m is) (parts m is).0) (lets_in m (parts m is).1)) in
      omega (arith, up, flat, fewer, count-product top u t g)
