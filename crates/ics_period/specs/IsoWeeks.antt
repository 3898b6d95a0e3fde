-- The weeks of ISO 8601.
use Rattle.std.specs.Prelude.{◌≡◌, ℕ}
use Rattle.ics_fields.specs.Days.{day_numbered}
use Rattle.jiff_core.specs.IsoWeekDate.{iso_epoch_day}
use Rattle.jiff_core.specs.declared.civil.iso_week_date.ISOWeekDate.{ISOWeekDate}

-- a date by year, week and weekday is day e, counted from 0000-01-01
abbrev pub IsDay : ISOWeekDate → ℕ → Type 0
IsDay d e = iso_epoch_day d ≡ day_numbered e
