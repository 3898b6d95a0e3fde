-- A date by its place in its year, and the days that are left of its month.
use Rattle.std.proofs.Common.{◌≡◌, ℕ, ◌+◌, ◌-◌, ◌<◌, ◌≤◌, Bool, false, max, pos, refl, sym, arith}
use Rattle.std.proofs.lemmas.Bool.{and_left, and_right}
use Rattle.jiff_core.specs.Calendar.{IsCivilDate, days_of_months, days_in_month, days_in_year}
use Rattle.jiff_core.proofs.CalendarLemmas.{day_count-day_of_year, day_of_year_bound}
use Rattle.ics_fields.specs.Days.{days_before_year, year_day_of}
use Rattle.ics_fields.specs.Fields.{IsCivilOf}
use Rattle.ics_fields.specs.declared.fields.Civil.{Civil}
use Rattle.ics_fields.proofs.DayLemmas.{fields_of, day_count_is, year_under_way, Fields}
use Rattle.ics_period.specs.declared.effective_rule.EffectiveRule.{EffectiveRule}
use Rattle.ics_period.specs.Candidates.{lets, lets_place, lets_wide_place, lets_date}

-- a date by its place in its year
pub fields_at : (e y m d : ℕ) → IsCivilDate (pos y) m d → e + 1 ≡ days_before_year y + (days_of_months (pos y) (m - 1) + d) → Fields e y m d
fields_at e y m d date h = fields_of e y m d date
    (let whole = day_count-day_of_year (pos y) m d (omega (arith, date.2.0)) in let start = day_count_is y in omega (arith, whole, start, h))

-- the place of a day in its year
place_of : (c : Civil) (e : ℕ) → IsCivilOf c e → e + 1 ≡ days_before_year c.year + (days_of_months (pos c.year) (c.month - 1) + c.day)
unfolding year_day_of
place_of c e own = grind (arith, year_under_way)

-- the days left of a month are in it
pub later_fields : {c : Civil} {e : ℕ} (j : ℕ) → IsCivilOf c e → j < days_in_month (pos c.year) c.month + 1 - c.day
    → Fields (e + j) c.year c.month (c.day + j)
later_fields {c = c} {e = e} j own h =
    let p = place_of c e own in
    fields_at (e + j) c.year c.month (c.day + j) (own.date.0, own.date.1, (omega (arith, own.date.2.0), omega (arith, h))) (omega (arith, p))

-- and fall with it
pub month_out : (q : EffectiveRule) {c : Civil} {e : ℕ} (j : ℕ) → IsCivilOf c e → j < days_in_month (pos c.year) c.month + 1 - c.day
    → lets q.months c.month ≡ false →
    lets_date q (e + j) ≡ false
month_out q j own h none = let f = later_fields j own h in rw (f.month, none) refl

-- or by their numbers in the month, or in the year
pub month_day_out : (q : EffectiveRule) {c : Civil} {e len : ℕ} (j : ℕ) → IsCivilOf c e → len ≡ days_in_month (pos c.year) c.month → j < len + 1 - c.day →
    lets_place q.month_days (c.day + j) len ≡ false → lets_date q (e + j) ≡ false
month_day_out q {c = c} j own size h none =
    let f = later_fields j own (omega (arith, size, h)) in
    rw (f.year, f.month, f.month_day, sym size, none) grind arith

pub year_day_out : (q : EffectiveRule) {c : Civil} {e year : ℕ} (j : ℕ) → IsCivilOf c e → j < days_in_month (pos c.year) c.month + 1 - c.day →
    year ≡ days_in_year (pos c.year) → lets_wide_place q.year_days (c.year_day + j) year ≡ false → lets_date q (e + j) ≡ false
year_day_out q {c = c} {e = e} j own h size none =
    let f = later_fields j own h in
    let place : year_day_of (e + j) ≡ c.year_day + j = omega (arith, f.year_day, own.place) in
    rw (f.year, place, sym size, none) grind (arith, and_left, and_right)

-- a later day of a month is one of its year
pub place_in_year : {c : Civil} {e : ℕ} (j : ℕ) → IsCivilOf c e → j < days_in_month (pos c.year) c.month + 1 - c.day →
    c.year_day + j ≤ days_in_year (pos c.year)
place_in_year {c = c} j own h =
    let b = day_of_year_bound (pos c.year) c.month (c.day + j) (own.date.0, own.date.1, (omega (arith, own.date.2.0), omega (arith, h))) in
    omega (arith, b, own.place)

-- one more number is left out
pub one_out : (f : ℕ → Bool) (e : ℕ) {k : ℕ} → f e ≡ false → ((j : ℕ) → j < k → f (e + j) ≡ false) → (j : ℕ) → j < max k 1 → f (e + j) ≡ false
one_out f e here none j h = grind arith
