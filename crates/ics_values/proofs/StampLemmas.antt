-- The form of a stamp's text, the day and the second that it says, and the day of an UNTIL.
use Rattle.std.proofs.Common.{◌≡◌, ℕ, suc, Bool, true, false, ◌==◌, ◌&&◌, ◌||◌, List, length, take, drop, refl, arith, ◌-◌, ◌≤◌, nat_le, sym, ap}
use Rattle.std.proofs.Common.{pos, ◌+◌, ◌<◌, ◌-ℤ◌, inl, inr, ◌∙◌, not, Ok, Err, if◌then◌else◌}
use Rattle.std.specs.List.{list_all}
use Rattle.std.proofs.Math.Nat.{mod-eq_of_lt}
use Rattle.std.proofs.lemmas.Bool.{and_left, eqb-true, ne_eqb, and_parts, or_cases, leb-true, cond_both}
use Rattle.std.proofs.lemmas.List.{drop-take, take-take, take-append-drop}
use Rattle.std.proofs.lemmas.List.Folds.{list_all-append}
use Rattle.ics_values.specs.Digits.{is_digit, are_digits, letter_at, number_at}
use Rattle.ics_values.specs.Stamps.{is_date_form, is_local_form, is_utc_form, is_date_time_form, HasDate, HasTime, year_of, date_exists, day_of, local_of}
use Rattle.ics_values.specs.Stamps.{time_exists, second_of, is_stamp_text, stamp_said, stamp_day, is_stamp_year, stamp_of, IsDayOf}
use Rattle.std.proofs.lemmas.Int.{ints}
use Rattle.std.proofs.lemmas.Bool.Decides.{nat_tests}
use Rattle.jiff_core.specs.Calendar.{days_in_year, day_of_year, IsYear}
use Rattle.jiff_core.proofs.CalendarLemmas.{day_of_year_bound, days_from_civil-day_count, day_count_bounds}
use Rattle.ics_values.specs.Dates.{is_date, day_number, days_before_month}
use Rattle.ics_values.specs.Periods.{IsDateTime}
use Rattle.ics_values.specs.declared.stamp.StampFault.TheVariants.{BadStamp, YearRange}
use Rattle.ics_values.specs.declared.stamp.Stamp.{Stamp}
use Rattle.ics_values.specs.declared.stamp.Stamp.TheVariants.{Date, Floating, Utc, Zoned}
use Rattle.ics_fields.specs.Days.{days_before_year, IsDayNumber, IsStampDay}
use Rattle.ics_fields.proofs.DayLemmas.{days_before_year-next, days_before_year_mono}
use Rattle.ics_values.proofs.DateLemmas.{parts, days_of-months, day_number-days_from_civil, is_jiffs}
use Rattle.jiff_core.proofs.SignedLemmas.{signed_arith}
use Rattle.ics_fields.specs.RuleParts.{IsUntil}
use Rattle.ics_values.specs.RuleTexts.{until_said}

list_all-take : (p : ℕ → Bool) (xs : List ℕ) (n : ℕ) → list_all p xs ≡ true → list_all p (take n xs) ≡ true
list_all-take p xs n h =
    (and_parts (list_all p (take n xs)) (list_all p (drop n xs))
    (sym (list_all-append p (take n xs) (drop n xs)) ∙ ap (list_all p) (take-append-drop n xs) ∙ h)).0

digits_of : (text : List ℕ) → are_digits text ≡ true → list_all is_digit text ≡ true
digits_of text h = (and_parts (not (length text == 0)) (list_all is_digit text) h).1

pub date_digits : (text : List ℕ) → is_date_form text ≡ true → HasDate text
date_digits text h =
    let a = and_parts (length text == 8) (are_digits text) h in
    let long = eqb-true (length text) 8 a.0 in
    record { long = omega (arith, long); digits = list_all-take is_digit text 8 (digits_of text a.1) }

-- a DATE-TIME has digits for its date and for its time
local_digits : (text : List ℕ) → is_local_form text ≡ true → HasDate text × HasTime text
local_digits text h =
    let a = and_parts ((length text == 15) && are_digits (take 8 text) && (letter_at text 8 == 84)) (are_digits (drop 9 text)) h in
    let b = and_parts ((length text == 15) && are_digits (take 8 text)) (letter_at text 8 == 84) a.0 in
    let c = and_parts (length text == 15) (are_digits (take 8 text)) b.0 in
    let long = eqb-true (length text) 15 c.0 in (
      record { long = omega (arith, long); digits = digits_of (take 8 text) c.1 },
      record { long = omega (arith, long); digits = list_all-take is_digit (drop 9 text) 6 (digits_of (drop 9 text) a.1) },
    )

pub date_time_digits : (text : List ℕ) → is_date_time_form text ≡ true → HasDate text × HasTime text
date_time_digits text h = elim (or_cases (is_utc_form text) (is_local_form text) h) [
  | inr local ↦ local_digits text local
  | inl utc ↦ (
      let a = and_parts ((length text == 16) && is_local_form (take 15 text)) (letter_at text 15 == 90) utc in
      let b = and_parts (length text == 16) (is_local_form (take 15 text)) a.0 in
      let long = eqb-true (length text) 16 b.0 in
      let (date, time) = local_digits (take 15 text) b.1 in (
        record { long = omega (arith, long); digits = rw (take-take 8 15 text (omega arith)) at date.digits },
        record { long = omega (arith, long); digits = rw (drop-take 9 6 text, take-take 6 6 (drop 9 text) (omega arith)) at time.digits },
      ))
]

-- a DATE-TIME of sixteen bytes is one in UTC, and no other
pub utc_by_length : (text : List ℕ) → is_date_time_form text ≡ true → (length text == 16) ≡ is_utc_form text
utc_by_length text h =
    by_tests (length text == 16) (length text == 15) (is_local_form (take 15 text)) (letter_at text 15 == 90)
    (are_digits (take 8 text)) (letter_at text 8 == 84) (are_digits (drop 9 text)) apart h
  where
    apart : (length text == 16) ≡ true → (length text == 15) ≡ false
    apart e = ap (λ n. n == 15) (eqb-true (length text) 16 e)

    by_tests : (long short local zulu date letter time : Bool) → (long ≡ true → short ≡ false)
        → ((long && local && zulu) || (short && date && letter && time)) ≡ true → long ≡ (long && local && zulu)
    by_tests false short local zulu date letter time n h = refl
    by_tests true short local zulu date letter time n h = let none = n refl in grind (arith, nat_tests, none)

-- what holds of each stamp that the text may say holds of the one that it says
said_is : (P : Stamp → Type 0) (zoned : Bool) (text : List ℕ) →
    P (Date (day_of text)) × P (Utc (local_of text)) × P (Zoned (local_of text)) × P (Floating (local_of text)) → P (stamp_said zoned text)
said_is P zoned text h = cond_both (is_date_form text) _ _ P (λ date. h.0) (λ other.
    cond_both (is_utc_form text) _ _ P (λ utc. h.1) (λ none. cond_both zoned _ _ P (λ zone. h.2) (λ none. h.3)))

pub stamp_day-said : (zoned : Bool) (text : List ℕ) → stamp_day (stamp_said zoned text) ≡ day_of text
stamp_day-said zoned text = said_is (λ stamp. stamp_day stamp ≡ day_of text) zoned text (refl, refl, refl, refl)

pub date_of-stamp : (text : List ℕ) → is_stamp_text text ≡ true → date_exists text ≡ true
date_of-stamp text h = by_tests (is_date_form text) (date_exists text) (is_date_time_form text) (time_exists text) h
  where
    by_tests : (date exists form time : Bool) → ((date && exists) || (form && exists && time)) ≡ true → exists ≡ true
    by_tests date exists form time h = grind (arith, nat_tests)

pub is_its_day : (text : List ℕ) → date_exists text ≡ true → year_of text ≤ 9999 → IsDayOf text (day_of text)
is_its_day text h year =
    let jiffs = is_jiffs (year_of text) (number_at text 4 6) (number_at text 6 8) year in
    record { date = jiffs.exists.0 h; number = jiffs.number h }

-- days counted from 0000-01-01, in the years 0001 to 9899
in_range : (n : ℕ) → 366 ≤ n → n < 366 + 3_615_535 → IsStampDay (pos n -ℤ pos 719_528)
in_range n low high = (omega (arith, ints), omega (arith, ints))

is_year : (y : ℕ) → y ≤ 9999 → IsYear (pos y)
is_year y h = (omega (arith, ints), omega (arith, ints))

pub day_number_range : (y m d : ℕ) → is_date y m d ≡ true → 1 ≤ y → y ≤ 9899 → IsStampDay (day_number y m d)
day_number_range y m d h low high =
    let p = (parts y m d).0 h in
    let ((month_low, month_high), (day_low, day_high)) = p in
    let months_before = days_of-months (pos y) (m - 1) (omega arith) in
    let place : day_of_year (pos y) m d ≤ days_in_year (pos y) = day_of_year_bound (pos y) m d (is_year y (omega arith), p.0, p.1) in
    let next = days_before_year-next y in
    let first = days_before_year_mono 1 y low in
    let last = days_before_year_mono (suc y) 9900 (omega arith) in
    in_range (days_before_year y + days_before_month y m + (d - 1)) (omega (arith, first)) (omega (arith, day_low, months_before, place, next, last))

pub stamp_years : (y : ℕ) → is_stamp_year y ≡ true → (1 ≤ y) × (y ≤ 9899)
stamp_years y h = let near = and_parts (nat_le 1 y) (nat_le y 9899) h in (leb-true 1 y near.0, leb-true y 9899 near.1)

-- a text with a time says no date alone
pub no_date : (text : List ℕ) → is_date_time_form text ≡ true → is_date_form text ≡ false
no_date text h = let long = (date_time_digits text h).1.long in and_left (length text == 8) (are_digits text) (ne_eqb (length text) 8 (λ e. omega arith))

pub is_date_time : (zoned : Bool) (text : List ℕ) (stamp : Stamp) → is_date_time_form text ≡ true → Ok stamp ≡ stamp_of zoned text →
    IsStampDay (stamp_day stamp) → IsDateTime stamp
is_date_time zoned text (Date day) form said range = by_tests _ (is_stamp_year (year_of text)) (is_utc_form text) zoned (sym (rw (no_date text form) at said))
  where
    by_tests : (ordered near utc zoned : Bool) →
        (if not ordered then Err BadStamp else (if not near then Err YearRange else Ok
        (if utc then Utc (local_of text) else (if zoned then Zoned (local_of text) else Floating (local_of text))))) ≡ Ok (Date day) → ⊥
    by_tests true true false true e = cc
    by_tests _ _ _ _ e = cc
is_date_time zoned text stamp form said range = range

-- a date of the years to 9999 has a number of the calendar
pub day_in : (y m d : ℕ) → y ≤ 9999 → is_date y m d ≡ true → IsDayNumber (day_number y m d)
day_in y m d year h =
    let p = (parts y m d).0 h in
    let bounds = day_count_bounds (pos y) m d (is_year y year, p.0, p.1) in
    let number = day_number-days_from_civil y m d h in
    let place = days_from_civil-day_count (pos y) m d in
    (omega (arith, signed_arith), omega (arith, signed_arith))

pub until_in : (text : List ℕ) → is_stamp_text text ≡ true → year_of text ≤ 9999 → IsUntil (until_said (stamp_said false text))
until_in text h year =
    let day = day_in (year_of text) (number_at text 4 6) (number_at text 6 8) year (date_of-stamp text h) in
    said_is (λ stamp. IsUntil (until_said stamp)) false text (day, day, day, day)

-- a time that exists is one of a day
second_fits : (text : List ℕ) → time_exists text ≡ true → second_of text < 86_400
second_fits text h = grind (arith, nat_tests)

pub second_kept : (text : List ℕ) → time_exists text ≡ true → (local_of text).second ≡ second_of text
second_kept text h = mod-eq_of_lt (second_fits text h)
