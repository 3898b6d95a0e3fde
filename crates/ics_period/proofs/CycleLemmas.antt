-- The calendar repeats after 400 years, which are 146,097 days.
use Rattle.std.proofs.Common.{◌≡◌, ℕ, zero, suc, ◌+◌, ◌-◌, ◌*◌, ◌/◌, ◌%◌, ◌<◌, ◌≤◌, inl, inr, true, false, cond, ◌||◌, ◌==◌, pos, refl, ap, ◌∙◌, arith}
use Rattle.std.proofs.lemmas.Bool.{cases_lt}
use Rattle.jiff_core.specs.Calendar.{is_leap_year, days_in_year, days_in_month, days_of_months}
use Rattle.ics_fields.specs.declared.frequency.Frequency.{Frequency}
use Rattle.ics_fields.specs.declared.ordinals.Ordinals.{Ordinals}
use Rattle.ics_fields.specs.Days.{days_before_year, year_of, year_day_of, month_from, month_of, month_day_of, weekday_of}
use Rattle.ics_fields.proofs.DayLemmas.{year_under_way, year_of_is}
use Rattle.ics_period.specs.declared.effective_rule.EffectiveRule.{EffectiveRule}
use Rattle.ics_period.specs.PeriodNumbers.{week_of}
use Rattle.ics_period.specs.Candidates.{lets_place, lists_nth, fourth_day, week_number, weeks_of_year, lets_numbered, lets_date, is_stepped}
use Rattle.ics_period.proofs.IntervalLemmas.{stepped_parts}
use Rattle.ics_period.proofs.PeriodLemmas.{fourth_early, fourth_late}

-- k times 400 years later
module _ (k : ℕ) where
  leap_again : (y : ℕ) → is_leap_year (pos (y + 400 * k)) ≡ is_leap_year (pos y)
  leap_again y = grind arith

  pub year_size_again : (y : ℕ) → days_in_year (pos (y + 400 * k)) ≡ days_in_year (pos y)
  year_size_again y = ap (λ b. cond b 366 365) (leap_again y)

  pub month_size_again : (y m : ℕ) → days_in_month (pos (y + 400 * k)) m ≡ days_in_month (pos y) m
  month_size_again y m = ap (λ b. cond (m == 2) (cond b 29 28) (cond ((m == 4) || (m == 6) || (m == 9) || (m == 11)) 30 31)) (leap_again y)

  pub months_again : (y n : ℕ) → days_of_months (pos (y + 400 * k)) n ≡ days_of_months (pos y) n
  unfolding days_of_months
  months_again y zero = refl
  months_again y (suc n) = let before = months_again y n in let one = month_size_again y (suc n) in omega (arith, before, one)

  pub years_again : (y : ℕ) → days_before_year (y + 400 * k) ≡ days_before_year y + 146_097 * k
  years_again y = omega arith

  pub year_again : (e : ℕ) → year_of (e + 146_097 * k) ≡ year_of e + 400 * k
  year_again e = let under = year_under_way e in
      year_of_is (e + 146_097 * k) (year_of e + 400 * k) (omega (arith, under.0)) (omega (arith, under.1))

  pub year_day_again : (e : ℕ) → year_day_of (e + 146_097 * k) ≡ year_day_of e
  unfolding year_day_of
  year_day_again e = grind (arith, year_again, year_under_way, years_again)

  month_from_again : (y n m : ℕ) → month_from (y + 400 * k) n m ≡ month_from y n m
  month_from_again y n m = grind (arith, months_again)

  pub month_again : (e : ℕ) → month_of (e + 146_097 * k) ≡ month_of e
  unfolding month_of
  month_again e = rw (year_again e, year_day_again e) (month_from_again (year_of e) (year_day_of e) 12)

  pub month_day_again : (e : ℕ) → month_day_of (e + 146_097 * k) ≡ month_day_of e
  unfolding month_day_of
  month_day_again e = grind (arith, month_again, months_again, year_again, year_day_again)

  pub weekday_again : (e : ℕ) → weekday_of (e + 146_097 * k) ≡ weekday_of e
  weekday_again e = omega arith

  pub year_size_of : (e : ℕ) → days_in_year (pos (year_of (e + 146_097 * k))) ≡ days_in_year (pos (year_of e))
  year_size_of e = rw (year_again e, year_size_again (year_of e)) refl

  own_month_size : (e : ℕ) → days_in_month (pos (year_of (e + 146_097 * k))) (month_of (e + 146_097 * k)) ≡ days_in_month (pos (year_of e)) (month_of e)
  own_month_size e = rw (year_again e, month_again e, month_size_again (year_of e) (month_of e)) refl

  place_of_week : (p : Ordinals) (f : ℕ) → lets_place p (week_number (f + 146_097 * k)) (weeks_of_year (f + 146_097 * k))
      ≡ lets_place p (week_number f) (weeks_of_year f)
  place_of_week p f = grind (arith, year_size_of, year_day_again)

  nth_in_month : (p : Ordinals) (e : ℕ) →
      lists_nth p (month_day_of (e + 146_097 * k)) (days_in_month (pos (year_of (e + 146_097 * k))) (month_of (e + 146_097 * k)))
      ≡ lists_nth p (month_day_of e) (days_in_month (pos (year_of e)) (month_of e))
  nth_in_month p e = rw (month_day_again e, own_month_size e) refl

  numbered_again : (f : Frequency) (q : EffectiveRule) (p : Ordinals) (e : ℕ) → lets_numbered f q p (e + 146_097 * k) ≡ lets_numbered f q p e
  numbered_again f q p e = grind (arith, nth_in_month, year_size_of, year_day_again)

-- the fourth day of a week is so much later too, or 400 years less where it is first taken 400 years later
pub fourth_again : (w k e : ℕ) → 1 ≤ k → (j : ℕ) × (fourth_day w (e + 146_097 * k) ≡ fourth_day w e + 146_097 * j)
fourth_again w k e some =
    let other = fourth_late w (e + 146_097 * k) (omega (arith, some)) in
    elim (cases_lt (7 * week_of w e + w) 9) [
      | inl early ↦ (k - 1, let own = fourth_early w e early in omega (arith, own, other, some))
      | inr late ↦ (k, let own = fourth_late w e late in omega (arith, own, other, late))
    ]

week_place : (p : Ordinals) (w k e : ℕ) → 1 ≤ k → lets_place p (week_number (fourth_day w (e + 146_097 * k))) (weeks_of_year (fourth_day w (e + 146_097 * k)))
    ≡ lets_place p (week_number (fourth_day w e)) (weeks_of_year (fourth_day w e))
week_place p w k e some = let f = fourth_again w k e some in
    ap (λ f. lets_place p (week_number f) (weeks_of_year f)) f.1 ∙ place_of_week f.0 p (fourth_day w e)

-- a rule allows the same dates
pub date_again : (q : EffectiveRule) (k e : ℕ) → 1 ≤ k → lets_date q (e + 146_097 * k) ≡ lets_date q e
date_again q k e some = grind (arith, month_again, month_day_again, numbered_again, own_month_size, year_size_of, week_place, weekday_again, year_day_again)

-- as on the day with the same place in the round that begins with one
pub date_by_place : (q : EffectiveRule) {from : ℕ} (e : ℕ) → from ≤ e → lets_date q e ≡ lets_date q (from + (e - from) % 146_097)
date_by_place q {from = from} e low = elim (cases_lt (e - from) 146_097) [
  | inl less ↦ ap (lets_date q) (omega (arith, low, less))
  | inr more ↦
      let k = (e - from) / 146_097 in
      let before = from + (e - from) % 146_097 in
      let same : e ≡ before + 146_097 * k = omega (arith, low) in
      ap (lets_date q) same ∙ date_again q k before (omega (arith, more))
]

-- no date is allowed after a round in which none is
pub none_again : (q : EffectiveRule) {from end : ℕ} → from + 146_097 ≤ end → ((e : ℕ) → from ≤ e → e < end → lets_date q e ≡ false)
    → (e : ℕ) → from ≤ e → lets_date q e ≡ false
none_again q {from = from} long none e low =
    date_by_place q e low ∙ none (from + (e - from) % 146_097) (omega arith) (omega (arith, long))

-- an allowed day is so some rounds later too
pub date_of_round : (q : EffectiveRule) (day e : ℕ) → lets_date q day ≡ true → is_stepped day 146_097 e ≡ true → lets_date q e ≡ true
date_of_round q day e is stepped =
    let at = stepped_parts day 146_097 e stepped in
    date_by_place q e at.0 ∙ ap (lets_date q) (omega (arith, at.1)) ∙ is
