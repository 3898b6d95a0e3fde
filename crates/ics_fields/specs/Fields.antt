-- The fields of a day, as `civil` gives them.
use Rattle.std.specs.Prelude.{◌≡◌, ℕ, ◌≤◌, pos}
use Rattle.jiff_core.specs.Calendar.{IsCivilDate, day_of_year, days_in_year}
use Rattle.jiff_core.specs.Weekday.{monday_zero}
use Rattle.ics_fields.specs.declared.fields.Civil.{Civil}
use Rattle.ics_fields.specs.Days.{year_of, month_of, month_day_of, year_day_of, weekday_of}

-- these are the fields of day e
pub record IsCivilOf (c : Civil) (e : ℕ) : Type 0 where
  pub date : IsCivilDate (pos c.year) c.month c.day
  pub year_end : c.year_day ≤ days_in_year (pos c.year)
  pub place : c.year_day ≡ day_of_year (pos c.year) c.month c.day
  pub year : c.year ≡ year_of e
  pub month : c.month ≡ month_of e
  pub day : c.day ≡ month_day_of e
  pub year_day : c.year_day ≡ year_day_of e
  pub weekday : monday_zero c.weekday ≡ weekday_of e
