-- How the steps of an interval go round a cycle of periods.
use Rattle.std.proofs.Common.{◌≡◌, ℕ, ◌+◌, ◌-◌, ◌*◌, ◌/◌, ◌%◌, ◌<◌, ◌≤◌, ◌⊎◌, inl, inr, Bool, true, false}
use Rattle.std.proofs.Common.{refl, sym, ap, ◌∙◌, arith}
use Rattle.std.proofs.lemmas.Bool.{cases_lt, eq-eqb, eqb-true, false_from_ne_true}
use Rattle.std.proofs.lemmas.Nat.{div-add-mod', div_below, div-mul-add, le-div, mod-mul-add, mul-mod_first, mul-mod_second}
use Rattle.std.proofs.lemmas.Nat.Gcd.{dvd_of_mod-eq-zero}
use Rattle.std.proofs.Math.Arith.{mod-mul}
use Rattle.std.proofs.Math.Nat.{add-mod-mod, add-mul, add-mul-mod_self_right, mod-add-mod, mod-eq-sub-mod, mod-eq_of_lt, mod-le, mod-lt, mod-mod}
use Rattle.std.proofs.Math.Nat.{mod-mod_of_dvd, mul-le-mul_right, mul_assoc, mul_comm, zero-add, zero-mod}
use Rattle.ics_fields.specs.Sets.{IsLeastFrom}
use Rattle.ics_period.specs.declared.step_clock.StepClock.{StepClock}
use Rattle.ics_period.specs.declared.steps.Round.{Round}
use Rattle.ics_period.specs.Inner.StepClocks.{may_have}
use Rattle.ics_period.specs.Inner.StepRounds.{product, is_reached}

-- the periods from a period of a cycle to that of a later one
apart : (m from x : ℕ) → 0 < m → ((from + x) % m + (m - from % m)) % m ≡ x % m
apart m from x some =
    let less = mod-lt from some in
    let parts = div-add-mod' from m in
    let sum : from + x + (m - from % m) ≡ x + (from / m + 1) * m = omega (arith, parts, less) in
    mod-add-mod (from + x) m (m - from % m) ∙ ap (λ y. y % m) sum ∙ add-mul-mod_self_right x (from / m + 1) m

-- a divisor of the interval and of the cycle divides those to a step
apart_whole : (m g i k : ℕ) → m % g ≡ 0 → i % g ≡ 0 → (k * i) % m % g ≡ 0
apart_whole m g i k cycle step =
    let none : k * 0 ≡ 0 = omega arith in
    mod-mod_of_dvd g (k * i) (dvd_of_mod-eq-zero g cycle) ∙ sym (mul-mod_second k i g) ∙ ap (λ y. (k * y) % g) step ∙ ap (λ y. y % g) none ∙ zero-mod g

-- and their product is at most the divisor, so many times as there are steps
product_low : (m g i v k : ℕ) → (v * i) % m ≡ g % m → ((k * i) % m * v) % m ≤ k * g
product_low m g i v k turn =
    let one : (k * i) % m * v % m ≡ (k * i * v) % m = mul-mod_first (k * i) v m in
    let two : k * i * v ≡ k * (v * i) = mul_assoc k i v ∙ ap (λ y. k * y) (mul_comm i v) in
    let three : (k * (v * i)) % m ≡ (k * g) % m = sym (mul-mod_second k (v * i) m) ∙ ap (λ y. (k * y) % m) turn ∙ mul-mod_second k g m in
    let most = mod-le (k * g) m in
    let same = one ∙ ap (λ y. y % m) two ∙ three in
    omega (arith, same, most)

-- the period of a cycle may have what any that it stands for may have
same_in_cycle : (c : StepClock) (n : ℕ) → may_have c (n % (c.cycle * c.per_day)) ≡ may_have c n
same_in_cycle c n =
    let low : n % c.per_day < c.per_day = mod-lt n (omega (arith, c.some)) in
    let digits = mod-mul n {m = c.cycle} {c = c.per_day} (omega (arith, c.some_days)) (omega (arith, c.some)) in
    let day = ap (λ y. y / c.per_day % c.cycle) digits ∙ ap (λ y. y % c.cycle) (div-mul-add (n / c.per_day % c.cycle) c.per_day (n % c.per_day) low)
    ∙ mod-mod (n / c.per_day) c.cycle in
    let time = ap (λ y. y % c.per_day) digits ∙ mod-mul-add (n / c.per_day % c.cycle) c.per_day (n % c.per_day) low in
    rw (day, time) refl

-- the steps before the least product are out, and all if nothing is reached
pub out_before : (r : Round) (clock : StepClock) (n i : ℕ) {least : ℕ}
    → (r.clock ≡ clock) × ((r.from ≡ n % r.periods) × ((i % r.divisor ≡ 0) × (r.factor * i % r.periods ≡ r.divisor % r.periods)))
    → ((p : ℕ) → p < r.periods → may_have r.clock p ≡ true → is_reached r p ≡ true → least ≤ product r p)
    → (k : ℕ) → (k < least / r.divisor) ⊎ (r.periods ≤ least) → may_have clock (n + k * i) ≡ false
out_before r clock n i {least = least} new low k early = false_from_ne_true (may_have clock (n + k * i)) (λ met.
    let some : 0 < r.periods = omega (arith, r.inside) in
    let t = (n + k * i) % r.periods in
    let w = t + (r.periods - r.from) in
    let way : w % r.periods ≡ (k * i) % r.periods = ap (λ y. (t + (r.periods - y)) % r.periods) new.1.0 ∙ apart r.periods n (k * i) some in
    let whole : w % r.divisor ≡ 0 = sym (mod-mod_of_dvd r.divisor w (dvd_of_mod-eq-zero r.divisor r.whole)) ∙ ap (λ y. y % r.divisor) way
    ∙ apart_whole r.periods r.divisor i k r.whole new.1.1.0 in
    let seen : may_have r.clock t ≡ true = ap (λ y. may_have r.clock ((n + k * i) % y)) r.periods_are ∙ same_in_cycle r.clock (n + k * i)
    ∙ ap (λ y. may_have y (n + k * i)) new.0 ∙ met in
    let high = low t (mod-lt (n + k * i) some) seen (eq-eqb (w % r.divisor) 0 whole) in
    let same = sym (mul-mod_first w r.factor r.periods) ∙ ap (λ y. y * r.factor % r.periods) way in
    let most = product_low r.periods r.divisor i r.factor k new.1.1.1 in
    let less = mod-lt (w * r.factor) some in
    elim early [
      | inl before ↦ (let next : (k + 1) * r.divisor ≡ k * r.divisor + r.divisor = omega arith in
          let past = div_below least r.divisor (k + 1) r.some (omega (arith, high, same, most, next, r.some)) in
          omega (arith, past, before))
      | inr all ↦ omega (arith, high, less, all)
    ])

-- one part of a sum, by what is left of both and of the other
rest_of_part : (g own part rest : ℕ) → own < g → part < g → (own + part) % g ≡ rest
    → (own ≤ rest → part ≡ rest - own) × (rest < own → part ≡ rest + g - own)
rest_of_part g own part rest a b is = elim (cases_lt (own + part) g) [
  | inl less ↦ (let same = mod-eq_of_lt less in (λ low. omega arith, λ high. omega arith))
  | inr more ↦ (let less = mod-eq-sub-mod more in
      let same = mod-eq_of_lt {n = own + part - g} {m = g} (omega arith) in (λ low. omega arith, λ high. omega arith))
]

-- the seconds of a minute that steps reach leave one rest
pub rest_reached : (r : Round) (begin s : ℕ) → is_reached r (begin + s) ≡ true
    → (begin % r.divisor ≤ r.rest → s % r.divisor ≡ r.rest - begin % r.divisor)
    × (r.rest < begin % r.divisor → s % r.divisor ≡ r.rest + r.divisor - begin % r.divisor)
rest_reached r begin s met =
    let g = r.divisor in
    let w = begin + s + (r.periods - r.from) in
    let none : w % g ≡ 0 = eqb-true (w % g) 0 met in
    let left = sym (mod-add-mod w g r.from) ∙ ap (λ y. (y + r.from) % g) none ∙ ap (λ y. y % g) (zero-add r.from) in
    let sum : w + r.from ≡ r.periods + (begin + s) = omega (arith, r.inside) in
    let right = sym (mod-add-mod r.periods g (begin + s)) ∙ ap (λ y. (y + (begin + s)) % g) r.whole ∙ ap (λ y. y % g) (zero-add (begin + s)) in
    let parts = mod-add-mod begin g (s % g) ∙ add-mod-mod begin s g in
    rest_of_part g (begin % g) (s % g) r.rest (mod-lt begin r.some) (mod-lt s r.some)
    (parts ∙ sym right ∙ ap (λ y. y % g) (sym sum) ∙ left ∙ sym r.rest_is)

-- what holds of the members before one, and of it, holds of those before the next place
pub scan_on : (test : ℕ → Bool) (P : Type 0) {at found n : ℕ} → IsLeastFrom test at found → (n < at → P) → (n ≡ found → P)
    → n < found + 1 → test n ≡ true → P
scan_on test P {at = at} {found = found} {n = n} next before here l met = elim (cases_lt n at) [
  | inl early ↦ before early
  | inr late ↦ elim (cases_lt n found) [
    | inl closed ↦ absurd (let no = sym met ∙ next.least n late closed in cc)
    | inr last ↦ here (omega arith)
  ]
]

-- and of all, where there is none from a place on
pub scan_done : (test : ℕ → Bool) (P : Type 0) {at n : ℕ} → ((m : ℕ) → at ≤ m → test m ≡ false) → (n < at → P) → test n ≡ true → P
scan_done test P {at = at} {n = n} none before met = elim (cases_lt n at) [
  | inl early ↦ before early
  | inr late ↦ absurd (let no = sym met ∙ none n late in cc)
]

-- a step from one on and before a later one
pub step_between : (first i step : ℕ) {out n : ℕ} → 0 < i → (first ≤ step) × ((step - first) % i ≡ 0) → (first ≤ n) × ((n - first) % i ≡ 0) → step ≤ n
    → n < step + out * i → (k : ℕ) × ((k < out) × (n ≡ step + k * i))
step_between first i step {out = out} {n = n} some own other low high =
    let a = (n - first) / i in
    let b = (step - first) / i in
    let whole = div-add-mod' (n - first) i in
    let before = div-add-mod' (step - first) i in
    let up : b ≤ a = le-div b (n - first) i some (omega (arith, before, low)) in
    let k = a - b in
    let spread = add-mul b k i in
    let sum : a * i ≡ (b + k) * i = ap (λ x. x * i) (omega (arith, up)) in
    let at : n ≡ step + k * i = omega (arith, whole, before, own.0, own.1, other.0, other.1, spread, sum) in (
      k,
      (
        elim (cases_lt k out) [
          | inl less ↦ less
          | inr more ↦ absurd (let most = mul-le-mul_right i more in omega (arith, most, at, high))
        ],
        at,
      ),
    )
