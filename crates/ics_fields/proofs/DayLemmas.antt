-- The years, months and days that a day number has.
use Rattle.std.proofs.Common.{◌≡◌, ℕ, zero, suc, ◌+◌, ◌-◌, ◌*◌, ◌/◌, ◌<◌, ◌≤◌, inl, inr, true, false, nat_le, refl, sym, ap, arith, ℤ, pos, negsuc, ◌+ℤ◌}
use Rattle.std.proofs.Common.{unsigned_abs}
use Rattle.std.proofs.lemmas.Bool.{cases_eq, cases_order, le-leb, lt-leb}
use Rattle.std.proofs.lemmas.Bool.Decides.{nat_tests, leb_tells}
use Rattle.jiff_core.specs.Calendar.{days_in_year, days_of_months, day_of_year, day_count, IsCivilDate}
use Rattle.jiff_core.proofs.SignedLemmas.{signed_arith, one_part}
use Rattle.jiff_core.proofs.MarchLemmas.{day_count-early}
use Rattle.jiff_core.proofs.CalendarLemmas.{days_from_civil-day_count, day_count-day_of_year, day_of_year_bound, days_of_months_more, days_of_months_mono}
use Rattle.jiff_core.proofs.CalendarLemmas.{day_count-lt_year}
use Rattle.jiff_core.specs.declared.civil.date.Date.{Date}
use Rattle.jiff_core.specs.Date.{epoch_day}
use Rattle.jiff_core.proofs.DateLemmas.{civil}
use borrow.Author.Differences.{up, down}
use Rattle.ics_fields.specs.Days.{days_before_year, year_from, year_of, year_day_of, month_from, month_of, month_day_of, day_index, IsDayNumber}

-- a year takes its days
pub days_before_year-next : (y : ℕ) → days_before_year (suc y) ≡ days_before_year y + days_in_year (pos y)
days_before_year-next y = grind (arith, nat_tests)

pub days_before_year_low : (y : ℕ) → 365 * y ≤ days_before_year y
days_before_year_low y = omega arith

pub days_before_year_mono : (y later : ℕ) → y ≤ later → days_before_year y ≤ days_before_year later
days_before_year_mono y later h = omega arith

-- each day lies in a year that has begun and whose next has not
year_from_under_way : (e n : ℕ) → e < days_before_year (suc n) → (days_before_year (year_from e n) ≤ e) × (e < days_before_year (suc (year_from e n)))
year_from_under_way e zero h = (omega arith, h)
year_from_under_way e (suc n) h = elim (leb_tells (days_before_year (suc n)) e) [
  | inl begun ↦ rw (begun.0, year_from) (begun.1, h)
  | inr later ↦ rw (later.0, year_from) (year_from_under_way e n later.1)
]

pub year_under_way : (e : ℕ) → (days_before_year (year_of e) ≤ e) × (e < days_before_year (suc (year_of e)))
unfolding year_of
year_under_way e = year_from_under_way e (e / 365) (let l = days_before_year_low (suc (e / 365)) in omega arith)

-- and in one such year
pub year_of_is : (e y : ℕ) → days_before_year y ≤ e → e < days_before_year (suc y) → year_of e ≡ y
year_of_is e y low high =
    let here = year_under_way e in
    elim (cases_order (year_of e) y) [
      | inl same ↦ same
      | inr (inl before) ↦ let m = days_before_year_mono (suc (year_of e)) y before in absurd (omega arith)
      | inr (inr after) ↦ let m = days_before_year_mono (suc y) (year_of e) after in absurd (omega arith)
    ]

-- and so for months: day n of a year lies in its month m
record IsInMonth (y n m : ℕ) : Type 0 where
  one : 1 ≤ m
  low : days_of_months (pos y) (m - 1) < n
  high : n ≤ days_of_months (pos y) m

month_from_is : {y n m : ℕ} (top : ℕ) → IsInMonth y n m → m ≤ top → month_from y n top ≡ m
month_from_is zero is h = absurd (omega arith)
month_from_is {y} {n} {m} (suc top) is h = elim (cases_eq m (suc top)) [
  | inl same ↦ let back : m - 1 ≡ top = omega arith in
      let begun : nat_le (days_of_months (pos y) top + 1) n ≡ true = le-leb _ _ (let l = rw back at is.low in omega arith) in rw (begun, month_from) (sym same)
  | inr less ↦ let later : nat_le (days_of_months (pos y) top + 1) n ≡ false =
      lt-leb _ _ (let k = days_of_months_mono (pos y) m top (omega arith) in omega arith) in
      rw (later, month_from) (month_from_is top is (omega arith))
]

-- the years as the calendar counts them
pub day_count_is : (y : ℕ) → day_count (pos y) 1 1 ≡ days_before_year y + 3_652_425
day_count_is y = let e = day_count-early (pos y) (y + 9_999) 1 1 (omega (arith, signed_arith)) (omega arith) (omega arith) (omega arith) in omega arith

-- the fields of a date are those of its day
pub record Fields (e y m d : ℕ) : Type 0 where
  pub year : year_of e ≡ y
  pub year_day : year_day_of e ≡ day_of_year (pos y) m d
  pub month : month_of e ≡ m
  pub month_day : month_day_of e ≡ d

year_day_at : (e y n : ℕ) → 1 ≤ n → year_of e ≡ y → e + 1 ≡ days_before_year y + n → year_day_of e ≡ n
unfolding year_day_of
year_day_at e y n one year h = rw year (omega arith)

month_at : (e : ℕ) {y m : ℕ} → year_of e ≡ y → month_from y (year_day_of e) 12 ≡ m → month_of e ≡ m
unfolding month_of
month_at e year h = rw year h

month_day_at : (e d : ℕ) {y m : ℕ} → year_of e ≡ y → month_of e ≡ m → year_day_of e ≡ days_of_months (pos y) (m - 1) + d → month_day_of e ≡ d
unfolding month_day_of
month_day_at e d year month day = rw (year, day, month) (omega arith)

pub fields_of : (e y m d : ℕ) → IsCivilDate (pos y) m d → e + 3_652_425 ≡ day_count (pos y) m d → Fields e y m d
fields_of e y m d date same =
    let whole = day_count-day_of_year (pos y) m d (omega arith) in
    let bound = day_of_year_bound (pos y) m d date in
    let start = day_count_is y in
    let next = days_before_year-next y in
    let year = year_of_is e y (omega arith) (omega arith) in
    let more = days_of_months_more (pos y) m (omega arith) in
    let in_month : IsInMonth y (day_of_year (pos y) m d) m = record { one = omega arith; low = omega arith; high = omega arith } in
    let year_day = year_day_at e y (day_of_year (pos y) m d) (omega arith) year (omega arith) in
    let month = month_at e year (rw year_day (month_from_is 12 in_month (omega arith))) in
    record { year = year; year_day = year_day; month = month; month_day = month_day_at e d year month year_day }

-- a date of a day from 0000-01-01 on has no year before 0
pub year_is : (d : Date) (day : ℤ) → IsDayNumber day → epoch_day d ≡ day → d.year ≡ pos (unsigned_abs d.year)
year_is d day range same = by_sign d.year refl
  where
    by_sign : (y : ℤ) → d.year ≡ y → y ≡ pos (unsigned_abs y)
    by_sign (pos n) e = refl
    by_sign (negsuc n) e =
        let before : day_count d.year d.month d.day < day_count (pos 0) 1 1 =
        day_count-lt_year d.year d.month d.day (pos 0) 1 1 (civil d) (omega arith) (rw e (omega (arith, signed_arith))) in
        let whole = days_from_civil-day_count d.year d.month d.day in
        absurd (omega (arith, signed_arith, day_count_is 0, before, whole, range.0, ap up same, ap down same))

pub day_index_parts : (day : ℤ) → IsDayNumber day → day_index day + down day ≡ up day + 719_528
day_index_parts day range = elim (one_part (day +ℤ pos 719_528)) [
  | inl zero_up ↦ omega (arith, signed_arith, range.0, zero_up)
  | inr zero_down ↦ omega (arith, signed_arith, range.0, zero_down)
]

pub index_count : (d : Date) (day : ℤ) → IsDayNumber day → epoch_day d ≡ day → day_index day + 3_652_425 ≡ day_count (pos (unsigned_abs d.year)) d.month d.day
index_count d day range same =
    let whole = days_from_civil-day_count d.year d.month d.day in
    rw (← year_is d day range same) (omega (arith, whole, ap up same, ap down same, day_index_parts day range))

pub fields : (d : Date) (day : ℤ) → IsDayNumber day → epoch_day d ≡ day → Fields (day_index day) (unsigned_abs d.year) d.month d.day
fields d day range same =
    fields_of (day_index day) (unsigned_abs d.year) d.month d.day
    (let e = year_is d day range same in rw (← e) (civil d)) (index_count d day range same)
