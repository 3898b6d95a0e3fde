-- A month is a run of days: other days have another month number.
use Rattle.std.proofs.Common.{ℕ, zero, suc, ◌+◌, ◌-◌, ◌*◌, ◌<◌, ◌≤◌, arith, pos}
use Rattle.std.proofs.lemmas.Bool.{cases_lt}
use Rattle.std.proofs.lemmas.Bool.Decides.{nat_tests}
use Rattle.jiff_core.specs.Calendar.{days_of_months}
use Rattle.jiff_core.proofs.CalendarLemmas.{days_of_months_mono, days_of_months_all, days_of_months-zero}
use Rattle.ics_fields.specs.Days.{days_before_year, year_of, year_day_of, month_from, month_of}
use Rattle.ics_fields.proofs.DayLemmas.{year_under_way, days_before_year_mono, days_before_year-next}
use Rattle.ics_period.specs.PeriodNumbers.{month_number}
use Rattle.ics_period.proofs.Tests.{by_order}

-- of the months up to a last, the one found is the greatest that has begun
month_from_high : (y n top : ℕ) → month_from y n top ≤ top
month_from_high y n zero = omega arith
month_from_high y n (suc top) = grind (arith, nat_tests, month_from_high y n top)

month_from_is : (y n k top : ℕ) → k < top → (days_of_months (pos y) k < n → k < month_from y n top) × (n ≤ days_of_months (pos y) k → month_from y n top ≤ k)
month_from_is y n k zero l = absurd (omega (arith, l))
month_from_is y n k (suc top) l = grind (arith, nat_tests, month_from_high y n top, days_of_months_mono (pos y) k top, month_from_is y n k top)

pub month_high : (e : ℕ) → month_of e ≤ 12
unfolding month_of
month_high e = month_from_high (year_of e) (year_day_of e) 12

month_of_is : (e k : ℕ) → k < 12 → (days_before_year (year_of e) + days_of_months (pos (year_of e)) k ≤ e → k < month_of e)
    × (e < days_before_year (year_of e) + days_of_months (pos (year_of e)) k → month_of e ≤ k)
unfolding month_of year_day_of
month_of_is e k h = grind (arith, month_from_is (year_of e) (e - days_before_year (year_of e) + 1) k 12 h, year_under_way e)

pub month_positive : (e : ℕ) → 0 < month_of e
month_positive e = (month_of_is e 0 (omega arith)).0 (let none = days_of_months-zero (pos (year_of e)) in let u = year_under_way e in omega (arith, none, u.0))

-- a day before the end of the first k months of a year has no later month's number, and each other day has
pub month_past : (y k e : ℕ) → k ≤ 12 → (e < days_before_year y + days_of_months (pos y) k → month_number e ≤ y * 12 + k)
    × (days_before_year y + days_of_months (pos y) k ≤ e → y * 12 + k < month_number e)
month_past y k e h =
    grind (
      arith,
      cases_lt,
      by_order (year_of e) y,
      days_before_year_mono (suc (year_of e)) y,
      days_before_year_mono (suc y) (year_of e),
      days_before_year-next y,
      days_of_months_all (pos y),
      days_of_months_mono (pos y) 12 k,
      days_of_months_mono (pos y) k 12 h,
      month_high e,
      month_of_is e k,
      month_positive e,
      year_under_way e,
    )
