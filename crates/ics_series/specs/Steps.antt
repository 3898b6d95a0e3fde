-- The locals among which a listing searches for starts by the rule of a master. Instants are taken here as their locals in UTC.
use Rattle.std.specs.Prelude.{◌≡◌, ◌≤ℤ◌, ℕ, ◌+◌, Some, ℤ, pos, ◌+ℤ◌, ◌-ℤ◌, List, ◌⊎◌}
use Rattle.std.specs.Int.{int_max}
use Rattle.ics_fields.specs.declared.local.Local.{Local}
use Rattle.ics_rule.specs.Cursors.{looks_from, period_count}
use Rattle.ics_fields.specs.Locals.{number, local_seconds, whole_days, year_number}
use Rattle.ics_rule.specs.Kept.{until_moment}
use Rattle.ics_period.specs.Recurrence.{Recurrence}
use Rattle.ics_listing.specs.Entry.{Entry}
use Rattle.ics_starts.specs.Leeway.{seconds_back, seconds_off}
use Rattle.ics_listing.specs.Listing.{IsIn}
use Rattle.ics_starts.specs.RuleStarts.{ends_at}
use Rattle.ics_starts.specs.SeriesStarts.{first_of, IsKeptAt}
use Rattle.ics_listing.specs.FeedSources.{Recurring}
use Rattle.ics_listing.specs.StartTimes.{local_of}
use Rattle.ics_starts.specs.Starts.{recurrence_of}

-- The local with this number is not past DTSTART, or not past so many seconds and a day before the first instant that is needed. That is the
-- first at which an event of this length can still meet the window or, if it is earlier, the earliest start by a PERIOD that meets it by its own
-- length; but it is not before the instant from which on the master's occurrences are listed, or two weeks past the window's end if that is
-- earlier.
abbrev pub IsLookedFrom : Recurring → ℕ → Type 0
IsLookedFrom m a =
    pos a ≤ℤ (int_max (local_seconds (local_of m.event.start.stamp)) (first_of m.clocks m.window m.event m.since -ℤ (seconds_back m.event +ℤ whole_days 1))
    +ℤ pos (year_number 1_970))

-- the local with this number is so many seconds or more past an instant
abbrev pub IsEarlier : ℤ → ℤ → ℕ → Type 0
IsEarlier seconds t b = ((t +ℤ seconds) +ℤ pos (year_number 1_970)) ≤ℤ pos b

-- it is three days or more past the start of an occurrence of the master still to come that begins at the instant from which the master's are listed
-- or later, and at that of DTSTART's local or of one that the rule keeps
pub record IsPastStart (m : Recurring) (coming : List Entry) (b : ℕ) : Type 0 where
  pub occurrence : Entry
  pub stands : IsIn occurrence coming
  pub of : occurrence.event ≡ m.event
  pub from : m.since ≤ℤ occurrence.start
  pub local : Local
  pub kept : IsKeptAt m.clocks m.event local occurrence.start
  pub past : IsEarlier (whole_days 3) occurrence.start b

-- it is so past such a start, or past the end of the rule in the window, by a day and as many seconds as a local can be off
abbrev pub IsLookedTo : Recurring → List Entry → Recurrence → ℕ → Type 0
IsLookedTo m coming rule b =
    IsEarlier (seconds_off m.event.start.stamp +ℤ whole_days 1) (ends_at m.window (until_moment rule) (local_seconds (local_of m.event.start.stamp))) b
    ⊎ IsPastStart m coming b

-- most is two more than the number of the periods of the master's rule that hold a local among which starts are searched for; under COUNT
-- these are the locals from DTSTART on
pub record HasPeriods (m : Recurring) (coming : List Entry) (rule : Recurrence) (most : ℕ) : Type 0 where
  pub a : ℕ
  pub from : IsLookedFrom m a
  pub b : ℕ
  pub to : IsLookedTo m coming rule b
  pub count : most ≡ period_count rule (looks_from rule.parts.count (number rule.start) a) b + 2

-- the same, or the master has no rule
abbrev pub HasStepBound : Recurring → List Entry → ℕ → Type 0
HasStepBound m coming most = (rule : Recurrence) → recurrence_of m.event ≡ Some rule → HasPeriods m coming rule most
