-- Steps by the interval.
use Rattle.std.proofs.Common.{◌≡◌, ℕ, zero, suc, ◌+◌, ◌-◌, ◌*◌, ◌/◌, ◌%◌, ◌<◌, ◌≤◌, ◌==◌, inl, inr, nat_lt, true, false, cond, ◌∙◌, arith}
use Rattle.std.proofs.lemmas.Bool.{cases_lt}
use Rattle.std.proofs.lemmas.Bool.Decides.{nat_tests}
use Rattle.std.proofs.lemmas.Nat.{div-mul-add, mod-mul-add, div-add-mod', le-div}
use Rattle.std.proofs.Math.Nat.{add-mul, add-mul-mod_self_right, mul-le-mul_right, mod-lt}
use Rattle.ics_fields.specs.Sets.{IsLeastFrom}
use Rattle.ics_period.specs.Candidates.{is_stepped}
use Rattle.ics_period.specs.Ranks.{count}

pub stepped_parts : (first i p : ℕ) → is_stepped first i p ≡ true → (first ≤ p) × ((p - first) % i ≡ 0)
stepped_parts first i p h = grind (arith, nat_tests)

pub stepped_shown : (first i p : ℕ) → first ≤ p → (p - first) % i ≡ 0 → is_stepped first i p ≡ true
stepped_shown first i p l e = grind (arith, nat_tests)

module _ (i : ℕ) (some : 1 ≤ i) where
  -- d units take so many intervals
  abbrev ceil : ℕ → ℕ
  ceil d = (d + (i - 1)) / i

  ceil_high : (d : ℕ) → d ≤ ceil d * i
  ceil_high d = let whole = div-add-mod' (d + (i - 1)) i in let rest : (d + (i - 1)) % i < i = mod-lt (d + (i - 1)) some in omega (arith, whole, rest)

  ceil_low : (d k : ℕ) → d ≤ k * i → ceil d ≤ k
  ceil_low d k h = grind (arith, div-add-mod', div-mul-add, le-div)

  -- the next step
  pub next_stepped : (first own : ℕ) → first < own → IsLeastFrom (is_stepped first i) own (first + ceil (own - first) * i)
  next_stepped first own h =
      grind (arith, nat_tests, ceil_high, ceil_low, div-add-mod', mod-mul-add, mul-le-mul_right, stepped_parts, stepped_shown)

  -- a step further is the next
  pub step_on : (first p : ℕ) → is_stepped first i p ≡ true → is_stepped first i (p + i) ≡ true
  step_on first p h = grind (arith, nat_tests, div-add-mod', mod-mul-add, stepped_parts, stepped_shown)

  pub none_between : (first p m : ℕ) → is_stepped first i p ≡ true → p < m → m < p + i → is_stepped first i m ≡ false
  none_between first p m h l u =
      grind (arith, nat_tests, div-add-mod', mod-mul-add ((p - first) / i) i (m - p), stepped_parts)

  ceil_at : (d k r : ℕ) → d + (i - 1) ≡ k * i + r → r < i → ceil d ≡ k
  ceil_at d k r e l = rw e (div-mul-add k i r l)

  ceil_on : (d e : ℕ) → e ≡ suc d → ceil e ≡ ceil d + cond (d % i == 0) 1 0
  ceil_on d e s =
      grind (arith, nat_tests, div-add-mod' d i, mod-lt d some, ceil_at d (d / i) (i - 1), ceil_at d (d / i + 1) (d % i - 1), ceil_at e (d / i + 1) (d % i))

  -- how many steps are before a number
  pub count_steps : (first n : ℕ) → count n (is_stepped first i) ≡ ceil (n - first)
  unfolding count
  count_steps first zero = grind (arith, ceil_low)
  count_steps first (suc n) = grind (arith, nat_tests, count_steps first n, ceil_on (n - first) (suc n - first))

  -- how many are among n numbers from one on, by the next step from it
  pub steps_among : {first from number : ℕ} (n : ℕ) → is_stepped first i number ≡ true → first ≤ from → from ≤ number → number < from + i
      → count (from + n) (is_stepped first i) ≡ count from (is_stepped first i) + (n / i + cond (nat_lt (number - from) (n % i)) 1 0)
  steps_among {first = first} {from = from} {number = number} n is first_low low high =
      let at = stepped_parts first i number is in
      let whole = div-add-mod' (number - first) i in
      let parts = div-add-mod' n i in
      let k = (number - first) / i in
      let before = ceil_at (from - first) k (i - 1 - (number - from)) (omega (arith, at.0, at.1, whole, first_low, low, high)) (omega (arith, some)) in
      let sum = add-mul k (n / i) i in
      rw (count_steps first (from + n), count_steps first from, before) (elim (cases_lt (number - from) (n % i)) [
        | inl less ↦
            let more = add-mul (k + n / i) 1 i in
            let all = ceil_at (from + n - first) (k + n / i + 1) (n % i - 1 - (number - from))
            (omega (arith, at.0, at.1, whole, parts, sum, more, first_low, low, less, some)) (let rest = mod-lt n some in omega (arith, rest)) in
            grind (arith, nat_tests, all, less)
        | inr more ↦
            let all = ceil_at (from + n - first) (k + n / i) (n % i + (i - 1) - (number - from))
            (omega (arith, at.0, at.1, whole, parts, sum, first_low, low, high, more, some)) (omega (arith, more, some)) in
            grind (arith, nat_tests, all, more)
      ])

  -- the next step from a number that is not before the first
  pub next_near : {first own next : ℕ} → first ≤ own → IsLeastFrom (is_stepped first i) own next → next < own + i
  next_near {first = first} {own = own} {next = next} low least = elim (cases_lt next (own + i)) [
    | inl less ↦ less
    | inr more ↦ absurd (
        let at = stepped_parts first i next least.passes in
        let whole = div-add-mod' (next - first) i in
        let back = least.least (next - i) (omega (arith, more)) (omega (arith, more, some)) in
        let same : next - first ≡ next - i - first + i = omega (arith, low, more) in
        grind (arith, nat_tests, back, same, add-mul-mod_self_right (next - i - first) 1 i, stepped_shown first i (next - i) (omega (arith, low, more))))
  ]

  -- n numbers later, whole intervals take the next step near
  pub step_later_by : (first : ℕ) {from number : ℕ} (n : ℕ) → is_stepped first i number ≡ true → from ≤ number → number < from + i
      → (is_stepped first i (number + n / i * i) ≡ true) × ((number + n / i * i < from + n + i) × (from + n ≤ number + n / i * i + i))
  step_later_by first {number = number} n is low high =
      let at = stepped_parts first i number is in
      let parts = div-add-mod' n i in
      let rest = mod-lt n some in
      let same : number + n / i * i - first ≡ number - first + n / i * i = omega (arith, at.0) in (
        stepped_shown first i (number + n / i * i) (omega (arith, at.0)) (rw same (add-mul-mod_self_right (number - first) (n / i) i ∙ at.1)),
        (omega (arith, parts, high), omega (arith, parts, rest, low)),
      )
