-- The dates that there are, and their day numbers, are jiff's.
use Rattle.std.proofs.Common.{◌≡◌, ◌↔◌, ℕ, zero, suc, ◌-◌, ◌≤◌, ◌<◌, true, Some, take, map, sym, ap, subst, arith, ℤ, pos, sum}
use Rattle.std.proofs.lemmas.Int.{ints}
use Rattle.std.proofs.lemmas.Bool.Decides.{nat_tests}
use Rattle.jiff_core.specs.Calendar.{days_in_month, days_of_months, days_from_civil, IsCivilDate, IsDate}
use Rattle.jiff_core.proofs.SignedLemmas.{signed_arith}
use Rattle.jiff_core.proofs.CalendarLemmas.{days_from_civil-day_count, day_count-day_of_year}
use Rattle.ics_values.specs.Dates.{is_date, months, day_number, date_day, IsJiffsDate}
use Rattle.jiff_core.specs.declared.civil.date.Date.{Date}
use Rattle.jiff_core.specs.Date.{epoch_day}
use Rattle.jiff_core.proofs.DateLemmas.{civil}
use Rattle.ics_fields.proofs.DayLemmas.{day_count_is}

pub days_of-months : (y : ℤ) (k : ℕ) → k < 12 → sum (map (days_in_month y) (take k months)) ≡ days_of_months y k
unfolding days_of_months
days_of-months y (suc (suc (suc (suc (suc (suc (suc (suc (suc (suc (suc zero))))))))))) h = grind arith
days_of-months y _ h = grind arith

-- what the test of a date says
abbrev pub HasDay : ℕ → ℕ → ℕ → Type 0
HasDay y m d = ((1 ≤ m) × (m ≤ 12)) × ((1 ≤ d) × (d ≤ days_in_month (pos y) m))

pub parts : (y m d : ℕ) → (is_date y m d ≡ true) ↔ HasDay y m d
parts y m d = ((λ h. grind (arith, nat_tests)), (λ h. let ((month_low, month_high), (day_low, day_high)) = h in grind (arith, nat_tests)))

pub day_number-days_from_civil : (y m d : ℕ) → is_date y m d ≡ true → day_number y m d ≡ days_from_civil (pos y) m d
day_number-days_from_civil y m d h =
    let ((month_low, month_high), (day_low, day_high)) = (parts y m d).0 h in
    let months_before = days_of-months (pos y) (m - 1) (omega arith) in
    let whole = day_count-day_of_year (pos y) m d (omega arith) in
    let start = day_count_is y in
    let place = days_from_civil-day_count (pos y) m d in
    omega (arith, signed_arith)

-- a date of the calendar is one that the test lets in, with its number
pub date_day-found : (date : Date) (y : ℕ) → date.year ≡ pos y → date_day y date.month date.day ≡ Some (epoch_day date)
date_day-found date y same =
    let c : IsCivilDate (pos y) date.month date.day = subst (λ (z : ℤ). IsCivilDate z date.month date.day) same (civil date) in
    let there = (parts y date.month date.day).1 (c.1, c.2) in
    let number = day_number-days_from_civil y date.month date.day there in
    rw (there, number) (ap (λ (z : ℤ). Some (days_from_civil z date.month date.day)) (sym same))

pub is_jiffs : (y m d : ℕ) → y ≤ 9999 → IsJiffsDate y m d
is_jiffs y m d year = record {
  exists = (
    (λ h. let ((month_low, month_high), (day_low, day_high)) = (parts y m d).0 h in
        ((omega (arith, ints), omega (arith, ints)), (omega (arith, ints), omega (arith, ints)), (omega (arith, ints), omega (arith, ints)))),
    (λ (h : IsDate (pos y) (pos m) (pos d)). (parts y m d).1
        ((omega (arith, ints, h.1.0), omega (arith, ints, h.1.1)), (omega (arith, ints, h.2.0), omega (arith, ints, h.2.1)))),
  );
  number = day_number-days_from_civil y m d;
}
