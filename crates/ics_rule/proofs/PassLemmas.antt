-- Steps over periods that hold nothing.
use Rattle.std.proofs.Common.{◌≡◌, ℕ, ◌+◌, ◌-◌, ◌*◌, ◌/◌, ◌%◌, ◌<◌, ◌≤◌, inl, inr, Bool, true, false, ◌&&◌, max, sym, ap, ◌∙◌, arith}
use Rattle.std.proofs.lemmas.Bool.{cases_lt}
use Rattle.std.proofs.Math.Nat.{add-mul-mod_self_right}
use Rattle.jiff_core.specs.Weekday.{monday_zero}
use Rattle.ics_fields.specs.Sets.{IsLeastFrom}
use Rattle.ics_period.specs.declared.effective_rule.EffectiveRule.{EffectiveRule}
use Rattle.ics_period.specs.Candidates.{lets_date, lets_clock, is_stepped, period_in, IsClosed}
use Rattle.ics_period.specs.RecurrencePeriods.{first_local}
use Rattle.ics_rule.specs.Inner.Searches.{NoneLetIn, IsNextOpen}
use Rattle.ics_period.proofs.PeriodLemmas.{begun, begins, period_mono}
use Rattle.ics_period.proofs.StepsLemmas.{step_between}
use Rattle.ics_period.proofs.IntervalLemmas.{stepped_parts, stepped_shown}

-- the step of a local before which the rule lets nothing in
pub step_open : {q : EffectiveRule} {first number begin place next : ℕ} → begin ≡ first_local q.frequency (monday_zero q.week_start) number → begin ≤ place →
    NoneLetIn q begin place → IsLeastFrom (is_stepped first q.interval) (period_in q place) next → IsNextOpen q first number next
step_open {q = q} {number = number} {place = place} e up none least = record {
  step = least.passes;
  low = let l = begins q.frequency (monday_zero q.week_start) number place (omega (arith, e, up)) in omega (arith, l, least.low);
  none = λ n l u stepped. elim (cases_lt n place) [
    | inl less ↦ none n (let b = begun q.frequency (monday_zero q.week_start) number n l in omega (arith, b, e)) less
    | inr more ↦ absurd (let m = period_mono q.frequency (monday_zero q.week_start) place n more in let out = sym stepped ∙ least.least (period_in q n) m u in
        cc)
  ];
}

-- the first step from a number on
pub least_open : {q : EffectiveRule} {first number next : ℕ} → IsLeastFrom (is_stepped first q.interval) number next → IsNextOpen q first number next
least_open {q = q} least = record {
  step = least.passes;
  low = least.low;
  none = λ n l u stepped. absurd (let out = sym stepped ∙ least.least (period_in q n) l u in cc);
}

-- a step that comes after another
pub open_on : {q : EffectiveRule} {first a b c : ℕ} → IsNextOpen q first a b → IsNextOpen q first b c → IsNextOpen q first a c
open_on {q = q} {b = b} early late = record {
  step = late.step;
  low = omega (arith, early.low, late.low);
  none = λ n l u stepped. elim (cases_lt (period_in q n) b) [
    | inl before ↦ early.none n l before stepped
    | inr more ↦ late.none n more u stepped
  ];
}

-- steps in whose periods no local is allowed are passed over
pub timed_open : (q : EffectiveRule) {first step : ℕ} (out : ℕ) → 1 ≤ q.interval → is_stepped first q.interval step ≡ true
    → ((k : ℕ) → k < out → IsClosed q (step + k * q.interval)) → IsNextOpen q first step (step + out * q.interval)
timed_open q {first = first} {step = step} out some stepped none = record {
  step = (let on : step + out * i - first ≡ step - first + out * i = omega (arith, own.0) in
      stepped_shown first i (step + out * i) (omega (arith, own.0)) (ap (λ x. x % i) on ∙ add-mul-mod_self_right (step - first) out i ∙ own.1));
  low = omega arith;
  none = λ n l u on. (let found = step_between first i step some own (stepped_parts first i (period_in q n) on) l u in
      none found.0 found.1.0 n found.1.1);
}
  where
    i : ℕ
    i = q.interval

    own : (first ≤ step) × ((step - first) % i ≡ 0)
    own = stepped_parts first i step stepped

-- a walk over what is left out goes on
pub out_on : (f : ℕ → Bool) {from e k : ℕ} → ((m : ℕ) → from ≤ m → m < e → f m ≡ false) → ((j : ℕ) → j < k → f (e + j) ≡ false) → (m : ℕ) → from ≤ m →
    m < e + k → f m ≡ false
out_on f {e = e} before none m l h = let rest = none (m - e) in grind (arith, cases_lt)

-- no local is let in on a day that is not
pub none_on_days : (q : EffectiveRule) (n day : ℕ) → ((e : ℕ) → n / 86_400 ≤ e → e < day → lets_date q e ≡ false) → NoneLetIn q n (max n (day * 86_400))
none_on_days q n day none m l u = ap (λ x. x && lets_clock q m) (none (m / 86_400) (omega (arith, l)) (omega (arith, l, u)))

-- none before one, and none from there on
pub none_on : (q : EffectiveRule) {n from before : ℕ} → NoneLetIn q n from → NoneLetIn q from before → NoneLetIn q n before
none_on q {from = from} early late m l u = elim (cases_lt m from) [
  | inl less ↦ early m l less
  | inr more ↦ late m more u
]
