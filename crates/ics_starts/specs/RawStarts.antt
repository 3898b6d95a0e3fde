-- How many starts an event can have in five UTC days in a row.
use Rattle.std.specs.Prelude.{◌≡◌, true, ℕ, zero, suc, ◌+◌, max, ℤ, pos, ◌+ℤ◌, ◌-ℤ◌, Bool, ◌&&◌, int_le, int_lt, if◌then◌else◌, count_by, Option}
use Rattle.std.specs.Prelude.{None, Some}
use Rattle.ics_period.specs.Ranks.{count}
use Rattle.ics_rule.specs.Kept.{is_kept}
use Rattle.ics_period.specs.Recurrence.{Recurrence}
use Rattle.ics_event.specs.declared.event.Event.{Event}
use Rattle.ics_event.specs.Event.{Rdate}
use Rattle.ics_listing.specs.declared.start.StartSource.{StartSource}
use Rattle.ics_listing.specs.FileClocks.{Clocks}
use Rattle.ics_starts.specs.Clocks.{instant}
use Rattle.ics_fields.specs.Days.{days_before_year}
use Rattle.ics_fields.specs.Locals.{midnight, calendar_end}
use Rattle.ics_starts.specs.RuleStarts.{lets_until, moment_numbered}
use Rattle.ics_starts.specs.Starts.{given_by, recurrence_of, GivesStart}
use Rattle.ics_listing.specs.StartTimes.{time_of}

-- an instant is in the five UTC days that begin with this one
abbrev pub is_within_days : ℤ → ℤ → Bool
is_within_days day t = int_le (midnight day) t && int_lt t (midnight (day +ℤ pos 5))

-- the rule keeps the local with this number, UNTIL allows its instant, and this is in these days
abbrev pub is_raw : Clocks → Event → Recurrence → ℤ → ℕ → Bool
is_raw clocks event rule day n =
    is_kept rule n && (lets_until rule n (moment_numbered clocks event n) && is_within_days day (moment_numbered clocks event n))

-- how many locals of the calendar give the event such an instant by the rule, which keeps DTSTART
unfoldable pub raw_by_rule : Clocks → Event → Recurrence → ℤ → ℕ
raw_by_rule clocks event rule day = count calendar_end (is_raw clocks event rule day)

-- how many do so by the rule; without one, DTSTART alone can
abbrev pub raw_by : Clocks → Event → Option Recurrence → ℤ → ℕ
raw_by clocks event None day = if is_within_days day (instant clocks event.start) then 1 else 0
raw_by clocks event (Some rule) day = raw_by_rule clocks event rule day

-- how many values of its RDATEs do so
unfoldable pub raw_listed : Clocks → Event → ℤ → ℕ
raw_listed clocks event day = count_by (λ rdate. is_within_days day (instant clocks (time_of (given_by event.start rdate)))) event.rdates

-- how many there are of both. An instant that is given twice counts twice, and EXDATEs remove nothing
unfoldable pub raw_in : Clocks → Event → ℤ → ℕ
raw_in clocks event day = raw_by clocks event (recurrence_of event) day + raw_listed clocks event day

-- What gives the event a start in these days, which these numbers count: the local of DTSTART, a local that the rule keeps, or an RDATE by
-- its place.
abbrev pub IsRaw : Clocks → Event → ℤ → StartSource → Type 0
IsRaw clocks event day source = (given : Rdate) × GivesStart clocks event source given × (is_within_days day (instant clocks (time_of given)) ≡ true)

-- the greatest of the first n values of a function
unfoldable pub greatest : ℕ → (ℕ → ℕ) → ℕ
greatest zero f = 0
greatest (suc n) f = max (greatest n f) (f n)

-- The greatest number that any five UTC days in a row have. An instant is less than two days from its local, so that five days have none if
-- they begin more than six days before 0000-01-01, or more than two days after 9999-12-31.
unfoldable pub most_in_days : Clocks → Event → ℕ
most_in_days clocks event = greatest (days_before_year 10_000 + 8) (λ k. raw_in clocks event (pos k -ℤ pos (days_before_year 1_970 + 6)))
