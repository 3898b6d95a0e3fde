-- A period is the locals from its first on and before the next period's first.
use Rattle.std.proofs.Common.{◌≡◌, ℕ, zero, suc, ◌+◌, ◌-◌, ◌*◌, ◌/◌, ◌%◌, ◌<◌, ◌≤◌, ap, cond, arith, pos}
use Rattle.std.proofs.lemmas.Bool.{cases_lt, le-ltb, lt-ltb}
use Rattle.jiff_core.specs.declared.civil.weekday.Weekday.{Weekday}
use Rattle.jiff_core.specs.Weekday.{monday_zero}
use Rattle.jiff_core.specs.Calendar.{days_in_month}
use Rattle.jiff_core.proofs.CalendarLemmas.{days_of_months_more, days_of_months_all, days_of_months-zero, days_in_month_bounds, days_in_year_bounds}
use Rattle.ics_fields.specs.Days.{days_before_year, year_of}
use Rattle.ics_fields.proofs.DayLemmas.{year_under_way, days_before_year_low, days_before_year_mono, days_before_year-next}
use Rattle.ics_fields.specs.declared.frequency.Frequency.{Frequency}
use Rattle.ics_fields.specs.declared.frequency.Frequency.TheVariants.{Monthly, Yearly}
use Rattle.ics_period.specs.PeriodNumbers.{period, month_number, week_of, rules_end}
use Rattle.ics_period.specs.Candidates.{fourth_day}
use Rattle.ics_period.specs.RecurrencePeriods.{month_start, first_local}
use Rattle.ics_period.proofs.Months.{month_past, month_positive}
use Rattle.ics_fields.specs.Locals.{calendar_end}

-- weeks start on one of seven weekdays
pub week_small : (d : Weekday) → monday_zero d < 7
week_small d = grind arith

-- the fourth day of a week, also where it is taken 400 years later
pub fourth_early : (w e : ℕ) → 7 * week_of w e + w < 9 → fourth_day w e ≡ 7 * week_of w e + w + 146_088
fourth_early w e early = ap (λ b. cond b (7 * week_of w e + w + 146_088) (7 * week_of w e + w - 9)) (lt-ltb (7 * week_of w e + w) 9 early)

pub fourth_late : (w e : ℕ) → 9 ≤ 7 * week_of w e + w → fourth_day w e ≡ 7 * week_of w e + w - 9
fourth_late w e late = ap (λ b. cond b (7 * week_of w e + w + 146_088) (7 * week_of w e + w - 9)) (le-ltb (7 * week_of w e + w) 9 late)

-- years
year_begun : (p e : ℕ) → p ≤ year_of e → days_before_year p ≤ e
year_begun p e h = let u = year_under_way e in let m = days_before_year_mono p (year_of e) h in omega (arith, u.0, m)

pub year_begins : (p e : ℕ) → days_before_year p ≤ e → p ≤ year_of e
year_begins p e h = let u = year_under_way e in grind (arith, cases_lt, days_before_year_mono)

year_length : (p : ℕ) → (days_before_year p < days_before_year (suc p)) × (days_before_year (suc p) ≤ days_before_year p + 366)
year_length p = let next = days_before_year-next p in let b = days_in_year_bounds (pos p) in (omega (arith, next, b.1), omega (arith, next, b.0))

-- months
pub month_begun : (p e : ℕ) → p ≤ month_number e → month_start p ≤ e
month_begun zero e h = let none = days_of_months-zero (pos ((0 - 1) / 12)) in omega (arith, none)
month_begun (suc p) e h = grind (arith, cases_lt, month_past (p / 12) (p % 12) e (omega arith))

pub month_begins : (p e : ℕ) → month_start p ≤ e → p ≤ month_number e
month_begins p e h = let past = (month_past ((p - 1) / 12) ((p - 1) % 12) e (omega arith)).1 h in omega (arith, past)

pub month_size : (p : ℕ) → month_start (suc (suc p)) ≡ month_start (suc p) + days_in_month (pos (p / 12)) (p % 12 + 1)
month_size p = grind (
  arith,
  days_before_year-next (p / 12),
  days_of_months_all (pos (p / 12)),
  days_of_months-zero (pos (suc (p / 12))),
  days_of_months_more (pos (p / 12)) (p % 12 + 1) (omega arith),
)

month_length : (p : ℕ) → (month_start (suc p) < month_start (suc (suc p))) × (month_start (suc (suc p)) ≤ month_start (suc p) + 31)
month_length p = grind (arith, days_in_month_bounds, month_size)

-- a local is no earlier than the first of its period and of those before
pub begun : (f : Frequency) (w p n : ℕ) → p ≤ period f w n → first_local f w p ≤ n
begun f w p n h = grind (arith, month_begun, year_begun)

pub begins : (f : Frequency) (w p n : ℕ) → first_local f w p ≤ n → p ≤ period f w n
begins f w p n h = grind (arith, month_begins, year_begins)

-- a local before the first of a period lies in an earlier one, and one in an earlier period is before it
pub before_first : (f : Frequency) (w p n : ℕ) → n < first_local f w p → period f w n < p
before_first f w p n h = grind (arith, begun, cases_lt)

pub before_next : (f : Frequency) (w p n : ℕ) → period f w n < p → n < first_local f w p
before_next f w p n h = grind (arith, begins, cases_lt)

-- a period from the first local's on has a local, and at most 366 days
pub lasts : (f : Frequency) (w p : ℕ) → w < 7 → period f w 0 ≤ p → first_local f w p < first_local f w (suc p)
lasts Monthly w zero h l = absurd (let some = month_positive (0 / 86_400) in omega (arith, some, l))
lasts Monthly w (suc p) h l = let m = month_length p in omega (arith, m.0)
lasts Yearly w p h l = let y = year_length p in omega (arith, y.0)
lasts f w p h l = omega arith

pub is_short : (f : Frequency) (w p : ℕ) → first_local f w (suc p) ≤ first_local f w p + 366 * 86_400
is_short Monthly w zero = let none = days_of_months-zero (pos 0) in omega (arith, none)
is_short Monthly w (suc p) = let m = month_length p in omega (arith, m.1)
is_short Yearly w p = let y = year_length p in omega (arith, y.1)
is_short f w p = omega arith

pub period_mono : (f : Frequency) (w n m : ℕ) → n ≤ m → period f w n ≤ period f w m
period_mono f w n m h = begins f w (period f w n) m (let b = begun f w (period f w n) n (omega arith) in omega (arith, b))

-- the first local of a period lies in it
pub first_in : (f : Frequency) (w p : ℕ) → w < 7 → period f w 0 ≤ p → period f w (first_local f w p) ≡ p
first_in f w p h l = grind (arith, begins, begun, cases_lt, lasts)

-- a period and the next, as code counts them
pub next_first : (f : Frequency) (w p : ℕ) → w < 7 → period f w 0 ≤ p →
    (first_local f w p < first_local f w (p + 1)) × (first_local f w (p + 1) ≤ first_local f w p + 366 * 86_400)
next_first f w p h l = grind (arith, is_short, lasts)

-- a period's number is no more than its locals allow
pub period_small : (f : Frequency) (w n : ℕ) → n < calendar_end → period f w n < calendar_end
period_small f w n h = let b = begun f w (period f w n) n (omega arith) in grind (arith, days_before_year_low)

-- local b is the first of the period with a number and local e that of the next, and the rules have not ended at b
pub record IsPeriodFrom (f : Frequency) (w p b e : ℕ) : Type 0 where
  pub some : period f w 0 ≤ p
  pub begin : b ≡ first_local f w p
  pub end : e ≡ first_local f w (p + 1)
  pub early : b ≤ rules_end

-- a period is not empty and has at most 366 days
pub period_fits : {f : Frequency} {w p b e : ℕ} → w < 7 → IsPeriodFrom f w p b e → (b < e) × (e ≤ b + 366 * 86_400)
period_fits {f = f} {w = w} {p = p} small is = let s = next_first f w p small is.some in
    (omega (arith, s.0, is.begin, is.end), omega (arith, s.1, is.begin, is.end))
