-- Walks from step to step, and numbers by their place in runs.
use Rattle.std.proofs.Common.{◌≡◌, ℕ, zero, suc, ◌+◌, ◌-◌, ◌%◌, ◌<◌, ◌≤◌, Bool, true, false, cond, ◌&&◌, nat_le, nat_lt, min, refl}
use Rattle.std.proofs.Common.{ap, ◌∙◌, arith}
use Rattle.std.proofs.lemmas.Bool.{and_left, cases_lt}
use Rattle.std.proofs.lemmas.Bool.Decides.{nat_tests}
use Rattle.std.proofs.lemmas.Nat.{div-add-mod', mod-mul-add}
use Rattle.ics_fields.specs.Sets.{IsLeastFrom}
use Rattle.ics_period.specs.Candidates.{is_stepped}
use Rattle.ics_period.specs.Ranks.{count}
use Rattle.ics_period.proofs.Counts.{count-none, count-suc, count_most}
use Rattle.ics_period.proofs.IntervalLemmas.{none_between, step_on, stepped_parts, stepped_shown}
use Rattle.ics_period.proofs.RankLemmas.{count_flat}

-- counts of tests of which each number passes as many
pub count-sum : (n : ℕ) (f g h : ℕ → Bool) → ((m : ℕ) → cond (h m) 1 0 ≡ cond (f m) 1 0 + cond (g m) 1 0) → count n h ≡ count n f + count n g
unfolding count
count-sum zero f g h same = refl
count-sum (suc n) f g h same = let before = count-sum n f g h same in let one = same n in omega (arith, before, one)

-- a walk from step to step that counts those that pass a test
pub record IsStepWalk (a i : ℕ) (g : ℕ → Bool) (from before number total : ℕ) : Type 0 where
  pub some : 1 ≤ i
  pub step : is_stepped a i number ≡ true
  pub passed : total + count from (λ p. is_stepped a i p && g p) ≡ count (min number before) (λ p. is_stepped a i p && g p)

pub walk_first : {a i from before number : ℕ} {g : ℕ → Bool} → 1 ≤ i → from ≤ before → IsLeastFrom (is_stepped a i) from number →
    IsStepWalk a i g from before number 0
walk_first some h least = grind (arith, nat_tests, count_flat)

module _ {a i : ℕ} {g : ℕ → Bool} {from before number total : ℕ} (walk : IsStepWalk a i g from before number total) where
  abbrev stepped : ℕ → Bool
  stepped p = is_stepped a i p && g p

  pub walk_small : total ≤ number
  walk_small = let most = count_most (min number before) stepped in omega (arith, most, walk.passed)

  -- to a later step, where none between passes
  walk_to : {next new : ℕ} {b : Bool} → g number ≡ b → new ≡ total + cond b 1 0 → number < before → is_stepped a i next ≡ true → number < next
      → ((m : ℕ) → number < m → m < next → stepped m ≡ false) → IsStepWalk a i g from before next new
  walk_to {next = next} {b = b} e is h step later none = record {
    some = walk.some;
    step = step;
    passed = grind (arith, nat_tests, count_flat (suc number) (min next before) stepped, count-suc number stepped);
  }

  pub walk_on : {new : ℕ} (b : Bool) → g number ≡ b → new ≡ total + cond b 1 0 → number < before → IsStepWalk a i g from before (number + i) new
  walk_on b e is h = walk_to e is h (step_on i walk.some a number walk.step) (omega (arith, walk.some))
      (λ m l u. and_left (is_stepped a i m) (g m) (none_between i walk.some a number m walk.step l u))

  -- past numbers of which none passes, to the next step
  pub walk_past : {out next : ℕ} → g number ≡ false → ((j : ℕ) → j < out → g (number + j) ≡ false) → 1 ≤ out
      → IsLeastFrom (is_stepped a i) (number + out) next → number < before → IsStepWalk a i g from before next total
  walk_past {out = out} e none some least h = walk_to e (omega arith) h least.passes (omega (arith, least.low, some))
      (λ m l u. let early = none (m - number) in grind (arith, cases_lt))

  pub walk_done : before ≤ number → total + count from stepped ≡ count before stepped
  walk_done h = walk.passed ∙ ap (λ x. count x stepped) (let all : min number before ≡ before = omega (arith, h) in all)

-- before the first nothing is a step
pub none_stepped : (a i : ℕ) (g : ℕ → Bool) → count a (λ p. is_stepped a i p && g p) ≡ 0
none_stepped a i g = count-none a (λ p. is_stepped a i p && g p)
    (λ m l. grind (arith, nat_tests))

-- Numbers from one on, by their place in runs of so many.
module _ (i : ℕ) (some : 1 ≤ i) (from j : ℕ) (less : j < i) where
  stepped_place : (e : ℕ) → is_stepped (from + j) i e ≡ true → (from ≤ e) × ((e - from) % i ≡ j)
  stepped_place e h = grind (arith, nat_tests, div-add-mod', mod-mul-add, stepped_parts)

  place_stepped : (e : ℕ) → from ≤ e → (e - from) % i ≡ j → is_stepped (from + j) i e ≡ true
  place_stepped e l h =
      let whole = div-add-mod' (e - from) i in stepped_shown (from + j) i e (omega (arith, whole, l, h)) (grind (arith, div-add-mod', mod-mul-add))

  -- one place more
  pub place_more : (e : ℕ) (b : Bool) → cond ((nat_le from e && nat_lt ((e - from) % i) (j + 1)) && b) 1 0
      ≡ cond ((nat_le from e && nat_lt ((e - from) % i) j) && b) 1 0 + cond (is_stepped (from + j) i e && b) 1 0
  place_more e b = grind (arith, nat_tests, place_stepped, stepped_place)
