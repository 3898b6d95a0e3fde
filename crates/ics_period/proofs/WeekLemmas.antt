-- The weeks of a year, and their numbers.
use Rattle.std.proofs.Common.{◌≡◌, ◌≢◌, ℕ, suc, ◌+◌, ◌-◌, ◌*◌, ◌%◌, ◌<◌, ◌≤◌, pos, arith}
use Rattle.std.proofs.lemmas.Bool.{le-ltb}
use Rattle.jiff_core.specs.Calendar.{days_in_year}
use Rattle.jiff_core.proofs.CalendarLemmas.{days_in_year_bounds}
use Rattle.ics_fields.specs.Days.{days_before_year, year_of, year_day_of}
use Rattle.ics_fields.proofs.DayLemmas.{year_under_way, year_of_is, days_before_year-next, days_before_year_mono}
use Rattle.ics_period.specs.PeriodNumbers.{week_of}
use Rattle.ics_period.specs.Candidates.{fourth_day, week_number, weeks_of_year}
use Rattle.ics_period.proofs.PeriodLemmas.{year_begins}

-- the weeks of a year are numbered one after the other
pub week_next : (f : ℕ) → year_of (f + 7) ≡ year_of f → week_number (f + 7) ≡ week_number f + 1
unfolding year_day_of
week_next f e = grind (arith, year_under_way)

-- and the first is the first whose fourth day lies in it
pub week_first : (f : ℕ) → year_of (f + 7) ≢ year_of f → week_number (f + 7) ≡ 1
unfolding year_day_of
week_first f other =
    grind (arith, days_before_year_mono (suc (year_of f)) (year_of (f + 7)), year_begins (year_of f) (f + 7), year_under_way f, year_under_way (f + 7))

-- the fourth day of a week lies in it, three days after its first
pub week_fourth : (w e : ℕ) → w < 7 → 9 ≤ 7 * week_of w e + w → (week_of w (fourth_day w e) ≡ week_of w e) × ((fourth_day w e + (12 - w)) % 7 ≡ 3)
week_fourth w e h late = grind (arith, le-ltb)

pub year_day_is : (f : ℕ) → year_day_of f + days_before_year (year_of f) ≡ f + 1
unfolding year_day_of
year_day_is f = let u = year_under_way f in omega (arith, u.0)

year_day_high : (f : ℕ) → year_day_of f ≤ days_in_year (pos (year_of f))
year_day_high f = let u = year_under_way f in let next = days_before_year-next (year_of f) in let own = year_day_is f in omega (arith, u.1, next, own)

-- no week of the year has a greater number than the last
pub weeks_high : (f g : ℕ) → year_of g ≡ year_of f → g % 7 ≡ f % 7 → week_number g ≤ weeks_of_year f
weeks_high f g e same = grind (arith, year_day_high, year_day_is)

year_day_low : (f : ℕ) → 1 ≤ year_day_of f
unfolding year_day_of
year_day_low f = omega arith

-- and there is one that has it
abbrev pub last_week : ℕ → ℕ
last_week f = days_before_year (year_of f) + (year_day_of f - 1) % 7 + 7 * (weeks_of_year f - 1)

pub weeks_there : (f : ℕ) → (year_of (last_week f) ≡ year_of f) × ((last_week f % 7 ≡ f % 7) × (week_number (last_week f) ≡ weeks_of_year f))
weeks_there f = let year = year_of_is (last_week f) (year_of f) in
    grind (arith, days_before_year-next (year_of f), days_in_year_bounds (pos (year_of f)), year_day_is, year_day_low f)
