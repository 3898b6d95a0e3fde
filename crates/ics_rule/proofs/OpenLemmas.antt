-- The periods that a rule lets in, counted step by step and by whole days.
use Rattle.std.proofs.Common.{◌≡◌, ℕ, ◌+◌, ◌-◌, ◌*◌, ◌/◌, ◌%◌, ◌<◌, ◌≤◌, Bool, true, false, ◌&&◌, nat_le, nat_lt, min, refl, sym, ap, ◌∙◌, arith}
use Rattle.std.proofs.lemmas.Bool.Decides.{nat_tests}
use Rattle.std.proofs.lemmas.Nat.{div-add-mod', le-div, div_below}
use Rattle.std.proofs.Math.Nat.{add-mul, mod-lt, mul_comm, mul_assoc, mul-le-mul_right}
use Rattle.ics_fields.specs.declared.frequency.Frequency.{Frequency}
use Rattle.ics_period.specs.declared.effective_rule.EffectiveRule.{EffectiveRule}
use Rattle.ics_period.specs.Candidates.{lets_clock, lets_date, is_stepped}
use Rattle.ics_period.specs.Ranks.{count}
use Rattle.ics_period.proofs.StepWalks.{count-sum, place_more}
use Rattle.ics_rule.specs.Inner.Rounds.{seconds_of}
use Rattle.ics_rule.specs.Inner.OpenPeriods.{per_day, lets_own, is_open_period}
use Rattle.ics_period.proofs.Counts.{count-same, count-add, count-none, count-product, count_between}
use Rattle.ics_period.proofs.RankLemmas.{count_flat}
use Rattle.ics_period.proofs.IntervalLemmas.{stepped_parts}
use Rattle.ics_rule.proofs.RoundLemmas.{step_repeats}

-- a second that no part allows
pub own_second : (f : Frequency) (q : EffectiveRule) (m : ℕ) → seconds_of f ≡ 1 → lets_clock q m ≡ false → lets_own f q (m * seconds_of f) ≡ false
own_second f q m e h = let one : m * 1 ≡ m = omega arith in grind (arith, one, h)

-- A period of a day or less, in its day.
module _ (f : Frequency) (q : EffectiveRule) (fine : 0 < seconds_of f) (unit : seconds_of f ≤ 86_400) where
  pub own_day : (n d : ℕ) → lets_own f q (n + d * 86_400) ≡ lets_own f q n
  own_day n d =
      let hour : (n + d * 86_400) / 3_600 % 24 ≡ n / 3_600 % 24 = omega arith in
      let minute : (n + d * 86_400) / 60 % 60 ≡ n / 60 % 60 = omega arith in
      let second : (n + d * 86_400) % 60 ≡ n % 60 = omega arith in
      rw (hour, minute, second) refl

pub day_seconds : (f : Frequency) → 0 < seconds_of f → seconds_of f ≤ 86_400 → (per_day f * seconds_of f ≡ 86_400) × (86_400 / seconds_of f ≡ per_day f)
day_seconds f h u = grind arith

pub day_some : (f : Frequency) → (1 ≤ per_day f) × (per_day f ≤ 86_400)
day_some f = grind arith

-- the periods let in on the days, from one on, with places before another, in runs of so many days
abbrev pub placed : EffectiveRule → ℕ → ℕ → ℕ → ℕ → ℕ → Bool
placed q first i from j p = (nat_le from (p / per_day q.frequency) && nat_lt ((p / per_day q.frequency - from) % i) j) && is_open_period q first p

-- whole days, from one on and before another, of a rule that begins earlier
pub record IsDayRun (q : EffectiveRule) (first from before : ℕ) : Type 0 where
  pub fine : 0 < seconds_of q.frequency
  pub unit : seconds_of q.frequency ≤ 86_400
  pub some : 1 ≤ q.interval
  pub later : first < from * per_day q.frequency
  pub order : from ≤ before

module _ {q : EffectiveRule} {first from before : ℕ} (run : IsDayRun q first from before) where
  abbrev d : ℕ
  d = per_day q.frequency

  -- a step whose time is let in
  abbrev timely : ℕ → Bool
  timely p = is_stepped first q.interval p && lets_own q.frequency q (p * seconds_of q.frequency)

  pub placed_none : (i : ℕ) → 0 ≡ count (before * d) (placed q first i from 0)
  placed_none i = sym (count-none (before * d) (placed q first i from 0) (λ p l. grind (arith, nat_tests)))

  -- those with one place more
  pub placed_next : {i j total more : ℕ} → j < i → total ≡ count (before * d) (placed q first i from j)
      → more ≡ count (before * d) (λ p. is_stepped (from + j) i (p / d) && is_open_period q first p)
      → total + more ≡ count (before * d) (placed q first i from (j + 1))
  placed_next {i = i} {j = j} less et em =
      let sum = count-sum (before * d) (placed q first i from j) (λ p. is_stepped (from + j) i (p / d) && is_open_period q first p)
      (placed q first i from (j + 1)) (λ p. place_more i (omega (arith, less)) from j less (p / d) (is_open_period q first p)) in
      omega (arith, sum, et, em)

  -- a step some runs of days later has the same clock
  pub step_later : (x t : ℕ) → first ≤ x → timely (x + q.interval * t * d) ≡ timely x
  step_later x t low =
      let fine = run.fine in let unit = run.unit in grind (arith, nat_tests, add-mul, day_seconds, mul_assoc, own_day, step_repeats)

  -- of the days with one place each has as many
  module _ {j : ℕ} (less : j < q.interval) where
    abbrev on_day : ℕ → Bool
    on_day e = is_stepped (from + j) q.interval e && lets_date q e

    abbrev times : ℕ → Bool
    times k = timely ((from + j) * d + k)

    same_time : (p : ℕ) → is_stepped (from + j) q.interval (p / d) ≡ true → timely p ≡ timely ((from + j) * d + p % d)
    same_time p e =
        let parts = stepped_parts (from + j) q.interval (p / d) e in
        let days = div-add-mod' (p / d - (from + j)) q.interval in
        let whole = div-add-mod' p d in
        let t = (p / d - (from + j)) / q.interval in
        let day : p / d ≡ (from + j) + q.interval * t = (let swap = mul_comm q.interval t in omega (arith, parts.0, parts.1, days, swap)) in
        let same : p ≡ (from + j) * d + p % d + q.interval * t * d =
        (let wide = ap (λ x. x * d) day in let spread = add-mul (from + j) (q.interval * t) d in omega (arith, whole, wide, spread)) in
        let low : first ≤ (from + j) * d + p % d = (let spread = add-mul from j d in omega (arith, run.later, spread)) in
        ap timely same ∙ step_later ((from + j) * d + p % d) t low

    one_place : (p : ℕ) → (is_stepped (from + j) q.interval (p / d) && is_open_period q first p) ≡ (on_day (p / d) && times (p % d))
    one_place p = in_order (is_stepped (from + j) q.interval (p / d)) (is_stepped first q.interval p) (lets_date q (p / d)) _ (same_time p)
      where
        in_order : (s a b c : Bool) {t : Bool} → (s ≡ true → (a && c) ≡ t) → (s && (a && (b && c))) ≡ ((s && b) && t)
        in_order s a b c h = grind arith

    pub placed_more : {total days unit : ℕ} (steps : ℕ) → total ≡ count (before * d) (placed q first q.interval from j) → days ≡ count before on_day
        → unit ≡ seconds_of q.frequency → steps + count ((from + j) * (86_400 / unit)) timely ≡ count ((from + j + 1) * (86_400 / unit)) timely
        → total + days * steps ≡ count (before * d) (placed q first q.interval from (j + 1))
    placed_more steps et ed eu es =
        let own = rw (eu, (day_seconds q.frequency run.fine run.unit).1) at es in
        let day = count-add ((from + j) * d) d timely in
        let end = ap (λ x. count x timely) (let same : (from + j + 1) * d ≡ (from + j) * d + d = omega arith in same) in
        let one : steps ≡ count d times = omega (arith, day, end, own) in
        rw (ed, one) (placed_next less et (sym (count-same (before * d) (λ p. is_stepped (from + j) q.interval (p / d) && is_open_period q first p)
        (λ p. on_day (p / d) && times (p % d)) (λ p l. one_place p) ∙ count-product before d on_day times)))

  pub placed_all : {i total j : ℕ} → 1 ≤ i → min i (before - from) ≤ j → total ≡ count (before * d) (placed q first i from j)
      → total + count (from * d) (is_open_period q first) ≡ count (before * d) (is_open_period q first)
  placed_all {i = i} {total = total} {j = j} some all et =
      let none = count-none (from * d) (placed q first i from j) early in
      count_between total (placed q first i from j) (is_open_period q first) (mul-le-mul_right d run.order) inside (omega (arith, none, et))
    where
      some_periods : 1 ≤ d
      some_periods = (day_some q.frequency).0

      early : (p : ℕ) → p < from * d → placed q first i from j p ≡ false
      early p l = grind (arith, nat_tests, div_below, some_periods)

      inside : (p : ℕ) → from * d ≤ p → p < before * d → placed q first i from j p ≡ is_open_period q first p
      inside p l h = grind (arith, nat_tests, div-add-mod', div_below, le-div, mod-lt, some_periods)

-- within one day
module _ (q : EffectiveRule) (first : ℕ) {from before : ℕ} (order : from ≤ before) (day : before ≤ (from / per_day q.frequency + 1) * per_day q.frequency) where
  same_day : (m : ℕ) → from ≤ m → m < before → m / per_day q.frequency ≡ from / per_day q.frequency
  same_day m l h = grind (arith, nat_tests, day_some, div-add-mod', div_below, le-div)

  pub day_in : (total : ℕ) → lets_date q (from / per_day q.frequency) ≡ true
      → total + count from (λ p. is_stepped first q.interval p && lets_own q.frequency q (p * seconds_of q.frequency))
      ≡ count before (λ p. is_stepped first q.interval p && lets_own q.frequency q (p * seconds_of q.frequency))
      → total + count from (is_open_period q first) ≡ count before (is_open_period q first)
  day_in total is = count_between total _ (is_open_period q first) order (λ m l h. let same = same_day m l h in grind arith)

  pub day_out : lets_date q (from / per_day q.frequency) ≡ false → 0 + count from (is_open_period q first) ≡ count before (is_open_period q first)
  day_out out =
      let flat = count_flat from before (is_open_period q first) order (λ m l h. let same = same_day m l h in grind arith) in
      omega (arith, flat)
