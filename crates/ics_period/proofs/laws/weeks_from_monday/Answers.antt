-- Weeks from Monday are the weeks of ISO 8601.
use Rattle.std.proofs.Common.{◌≡◌, ℕ, zero, suc, ◌+◌, ◌-◌, ◌*◌, ◌/◌, ◌%◌, ◌<◌, ◌≤◌, refl, sym, ap, ◌∙◌, arith, ℤ, pos, negsuc, neg_ℤ, ◌+ℤ◌, ◌-ℤ◌}
use Rattle.jiff_core.specs.Calendar.{days_in_year, iso_year_start, IsYear, IsBetween}
use Rattle.jiff_core.specs.IsoWeek.{weeks_in_year, days_from_iso}
use Rattle.jiff_core.specs.Weekday.{monday_zero}
use Rattle.jiff_core.specs.declared.civil.iso_week_date.ISOWeekDate.{ISOWeekDate}
use Rattle.jiff_core.proofs.SignedLemmas.{signed_arith}
use Rattle.jiff_core.proofs.CalendarLemmas.{days_from_civil-day_count, day_count-later_year, day_count-next_year, days_in_year_bounds}
use Rattle.jiff_core.proofs.IsoWeekLemmas.{day_count-fourth, iso_year_start-day_count, iso_year_start_near, weeks_in_year-next}
use borrow.Author.Differences.{up, down}
use Rattle.ics_fields.specs.Days.{days_before_year, year_of, weekday_of}
use Rattle.ics_fields.proofs.DayLemmas.{day_count_is, year_of_is, days_before_year-next}
use Rattle.ics_period.specs.Candidates.{fourth_day, week_number, weeks_of_year}
use Rattle.ics_period.specs.IsoWeeks.{IsDay}
use Rattle.ics_period.proofs.WeekLemmas.{year_day_is}
use Rattle.ics_period.proofs.PeriodLemmas.{week_small, fourth_early, fourth_late}
use Rattle.ics_period.proofs.laws.weeks_from_monday.Goals as goal

-- the Monday that begins an ISO year, counted from 0000-01-01
abbrev start_of : ℕ → ℕ
start_of y = days_before_year y + 3 - (days_before_year y + 1) % 7

start_is : (y : ℕ) → y ≤ 10000 → up (iso_year_start (pos y)) + 719_528 ≡ down (iso_year_start (pos y)) + start_of y
start_is y h = grind (arith, day_count-fourth, day_count_is, iso_year_start-day_count, signed_arith)

-- what a rule says of the week of day e, and of the day
record IsWeek (y n all w e : ℕ) : Type 0 where
  pub year : y ≡ year_of (fourth_day 0 e)
  pub number : n ≡ week_number (fourth_day 0 e)
  pub weeks : all ≡ weeks_of_year (fourth_day 0 e)
  pub weekday : w ≡ weekday_of e

-- the Thursday f of week n in a year from a up to b, which begins on Monday s, and the next one on t
record IsThursday (a b s t n f : ℕ) : Type 0 where
  pub low : a ≤ f
  pub high : f < b
  pub place : (f - a) / 7 + 1 ≡ n
  pub weeks : s + 7 * ((b - a - 1 - (f - a) % 7) / 7 + 1) ≡ t

by_fourth : {y n all w s t : ℕ} (e f : ℕ) → fourth_day 0 e ≡ f → IsThursday (days_before_year y) (days_before_year (suc y)) s t n f → s + 7 * all ≡ t
    → w ≡ weekday_of e → IsWeek y n all w e
by_fourth {y = y} e f fourth own end weekday =
    let year = ap year_of fourth ∙ year_of_is f y own.low own.high in
    let day = year_day_is (fourth_day 0 e) in
    let before = ap days_before_year year in
    let size = ap (λ y. days_in_year (pos y)) year in
    let length = days_before_year-next y in
    record {
      year = sym year;
      number = omega (arith, fourth, day, before, own.place);
      weeks = omega (arith, fourth, day, before, size, length, own.weeks, end);
      weekday = weekday;
    }

thursday : {a b s t n f : ℕ} → s ≡ a + 3 - (a + 1) % 7 → t ≡ b + 3 - (b + 1) % 7 → a + 365 ≤ b → 1 ≤ n → s + 7 * n ≤ t → f ≡ s + 3 + 7 * (n - 1) →
    IsThursday a b s t n f
thursday first next long one most at =
    record { low = omega arith; high = omega arith; place = omega arith; weeks = omega arith }

-- the day w of week n in a year from 0 on
later_week : (y : ℕ) {n w : ℕ} (e : ℕ) → y ≤ 9999 → (1 ≤ n) × (n ≤ weeks_in_year (pos y)) → w < 7
    → iso_year_start (pos y) +ℤ pos ((n - 1) * 7 + w) ≡ pos e -ℤ pos 719_528
    → (2 ≤ e) × IsWeek y n (weeks_in_year (pos y)) w e
later_week y {n = n} {w = w} e range within week day =
    let year : IsYear (pos y) = omega (arith, signed_arith) in
    let weeks = weeks_in_year-next (pos y) (pos (suc y)) year (omega (arith, signed_arith)) in
    let start = start_is y (omega arith) in
    let next = start_is (suc y) (omega arith) in
    let end : start_of y + 7 * weeks_in_year (pos y) ≡ start_of (suc y) = omega (arith, signed_arith, start, next, ap up weeks.0, ap down weeks.0) in
    let place : e ≡ start_of y + (n - 1) * 7 + w = omega (arith, signed_arith, start, ap up day, ap down day) in
    of_place y within.0 within.1 week place end
  where
    of_place : (y : ℕ) {n w e weeks : ℕ} → 1 ≤ n → n ≤ weeks → w < 7 → e ≡ start_of y + (n - 1) * 7 + w → start_of y + 7 * weeks ≡ start_of (suc y)
        → (2 ≤ e) × IsWeek y n weeks w e
    of_place y {n = n} {e = e} one most week place end =
        let length = days_before_year-next y in
        let late : 2 ≤ e = omega arith in
        let fourth : fourth_day 0 e ≡ 7 * ((e + 12) / 7) - 9 = fourth_late 0 e (omega arith) ∙ omega arith in
        let own = thursday refl refl (omega (arith, length)) one (omega arith) (omega (arith, fourth, place)) in
        (late, by_fourth e (fourth_day 0 e) refl own end (omega (arith, place)))

-- week 52 of the year -1 is named one cycle of the calendar later
early_week : {n w : ℕ} (e : ℕ) → 1 ≤ n → n ≤ weeks_in_year (negsuc 0) → w < 7 → iso_year_start (negsuc 0) +ℤ pos ((n - 1) * 7 + w) ≡ pos e -ℤ pos 719_528
    → (e < 2) × IsWeek 399 n (weeks_in_year (negsuc 0)) w e
early_week {n = n} {w = w} e one most week day =
    let year : IsYear (negsuc 0) = omega (arith, signed_arith) in
    let here : IsBetween (neg_ℤ (pos 9999)) (pos 10000) (negsuc 0) = omega (arith, signed_arith) in
    let weeks = weeks_in_year-next (negsuc 0) (pos 0) year refl in
    let next = start_is 0 (omega arith) in
    let fourth = day_count-fourth (negsuc 0) here in
    let start = iso_year_start-day_count (negsuc 0) here in
    let zero_day = day_count_is 0 in
    let before = day_count-next_year (negsuc 0) (pos 0) (omega (arith, signed_arith)) refl in
    let monday : up (iso_year_start (negsuc 0)) + 719_890 ≡ down (iso_year_start (negsuc 0)) = omega (arith, fourth.0, start, zero_day, before) in
    let all : weeks_in_year (negsuc 0) ≡ 52 = omega (arith, signed_arith, monday, next, ap up weeks.0, ap down weeks.0) in
    let place : e + 362 ≡ (n - 1) * 7 + w = omega (arith, signed_arith, monday, ap up day, ap down day) in
    of_place e one most all week place
  where
    of_place : {n w weeks : ℕ} (e : ℕ) → 1 ≤ n → n ≤ weeks → weeks ≡ 52 → w < 7 → e + 362 ≡ (n - 1) * 7 + w → (e < 2) × IsWeek 399 n weeks w e
    of_place e one most all week place =
        let early : e < 2 = omega arith in (
          early,
          by_fourth {s = 0} {t = 364} e 146_095 (fourth_early 0 e (omega arith) ∙ omega arith)
              (record { low = omega arith; high = omega arith; place = omega (arith, place); weeks = omega arith }) (omega (arith, all)) (omega (arith, place)),
        )

-- no day from 0000-01-01 on is in a week of an earlier year
no_earlier : (k : ℕ) {n w : ℕ} (e : ℕ) → k < 9998 → (1 ≤ n) × (n ≤ weeks_in_year (negsuc (suc k))) → w < 7 →
    iso_year_start (negsuc (suc k)) +ℤ pos ((n - 1) * 7 + w) ≡ pos e -ℤ pos 719_528 → ⊥
no_earlier k e range within week day =
    let year : IsYear (negsuc (suc k)) = omega (arith, signed_arith) in
    let weeks = weeks_in_year-next (negsuc (suc k)) (negsuc k) year (omega (arith, signed_arith)) in
    let near = iso_year_start_near (negsuc k) (omega (arith, signed_arith)) in
    let first = days_from_civil-day_count (negsuc k) 1 1 in
    let later = day_count-later_year (negsuc k) (pos 0) (omega (arith, signed_arith)) (omega (arith, signed_arith)) in
    let long = days_in_year_bounds (negsuc k) in
    let zero_day = day_count_is 0 in
    omega (arith, signed_arith, near.0, first, later, long.1, zero_day, ap up weeks.0, ap down weeks.0, ap up day, ap down day)

-- ISO 8601 says the same of a day as a rule whose weeks start on Monday; of the first two days of 0000 a cycle earlier
record IsIsoWeek (d : ISOWeekDate) (e : ℕ) : Type 0 where
  pub rule_year : ℕ
  pub week : IsWeek rule_year d.week (weeks_in_year d.year) (monday_zero d.weekday) e
  pub year : 2 ≤ e → d.year ≡ pos rule_year
  pub cycle : e < 2 → d.year +ℤ pos 400 ≡ pos rule_year

iso_week : (d : ISOWeekDate) (e : ℕ) → IsDay d e → IsIsoWeek d e
unfolding days_from_iso
iso_week d e day = by_year d.year refl
  where
    by_year : (y : ℤ) → d.year ≡ y → IsIsoWeek d e
    by_year (pos y) is =
        let range = rw is at d.year_in in
        let r = later_week y e (omega (arith, signed_arith, range)) (rw is at d.week_in) (week_small d.weekday)
        (rw is at day) in
        record { rule_year = y; week = rw is r.1; year = λ late. is; cycle = λ early. absurd (omega (arith, r.0, early)) }
    by_year (negsuc zero) is =
        let r = early_week e d.week_in.0 (rw is at d.week_in.1) (week_small d.weekday) (rw is at day) in
        record { rule_year = 399; week = rw is r.1; year = λ late. absurd (omega (arith, r.0, late)); cycle = λ early. rw is refl }
    by_year (negsuc (suc k)) is =
        let range = rw is at d.year_in in
        absurd (no_earlier k e (omega (arith, signed_arith, range)) (rw is at d.week_in) (week_small d.weekday)
        (rw is at day))

pub returns : goal.returns
returns c = record {
  year = λ d e day late. let is = iso_week d e day in is.year late ∙ ap pos is.week.year;
  cycle = λ d e day early. let is = iso_week d e day in is.cycle early ∙ ap pos is.week.year;
  number = λ d e day. (iso_week d e day).week.number;
  weeks = λ d e day. (iso_week d e day).week.weeks;
  weekday = λ d e day. (iso_week d e day).week.weekday;
}
