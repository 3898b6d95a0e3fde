-- What gives an event its starts (RFC 5545, sections 3.3.10, 3.8.2.4, 3.8.5.2 and 3.8.5.3).
use Rattle.std.specs.Prelude.{◌≡◌, ◌≤ℤ◌, true, Option, Some, IfSome, ◌⊎◌, slice_get}
use Rattle.std.specs.Option.{option_map}
use Rattle.ics_fields.specs.Days.{IsDayNumber}
use Rattle.ics_fields.specs.Locals.{local_at, number}
use Rattle.ics_fields.specs.RuleParts.{RuleParts}
use Rattle.ics_fields.specs.declared.local.Local.{Local}
use Rattle.ics_values.specs.declared.stamp.Stamp.{Stamp}
use Rattle.ics_values.specs.declared.stamp.Stamp.TheVariants.{Date, Floating, Utc, Zoned}
use Rattle.ics_rule.specs.Kept.{is_kept, until_moment}
use Rattle.ics_period.specs.Recurrence.{Recurrence}
use Rattle.ics_period.specs.declared.kind.Kind.{Kind}
use Rattle.ics_period.specs.declared.kind.Kind.TheVariants as kind
use Rattle.ics_event.specs.Event.{Rdate}
use Rattle.ics_values.specs.declared.time.Rdate.TheVariants.{At, Span}
use Rattle.ics_event.specs.Event.{Time}
use Rattle.ics_event.specs.declared.event.Event.{Event}
use Rattle.ics_listing.specs.FileClocks.{Clocks}
use Rattle.ics_starts.specs.Clocks.{instant}
use Rattle.ics_listing.specs.declared.start.StartSource.{StartSource}
use Rattle.ics_listing.specs.declared.start.StartSource.TheVariants.{Kept, Listed}
use Rattle.ics_listing.specs.StartTimes.{local_of, time_at, date_only, time_of}

-- an event that starts on a date recurs by dates
abbrev pub kind_of : Stamp → Kind
kind_of (Date day) = kind.Date
kind_of (Floating local) = kind.DateTime
kind_of (Utc local) = kind.DateTime
kind_of (Zoned local) = kind.DateTime

-- a rule as that of an event with this DTSTART
abbrev pub recurrence_by : Stamp → RuleParts → Recurrence
recurrence_by first parts = record { parts = parts; start = local_of first; kind = kind_of first }

-- the rule of an event, with its DTSTART and its kind
abbrev pub recurrence_of : Event → Option Recurrence
recurrence_of event = option_map (recurrence_by event.start.stamp) event.rule

-- a local that the event's rule keeps. If UNTIL is in UTC and the event has date-times, the instant of the local in DTSTART's zone is not
-- after UNTIL
pub record IsRuleStart (clocks : Clocks) (event : Event) (local : Local) : Type 0 where
  pub rule : Recurrence
  pub has : recurrence_of event ≡ Some rule
  pub calendar : IsDayNumber local.day
  pub kept : is_kept rule (number local) ≡ true
  pub until : IfSome (until_moment rule) (λ last. instant clocks (time_at event.start local) ≤ℤ last)

-- a time of an RDATE, if the event has date-times. A date means that date at DTSTART's time of day, in DTSTART's zone
abbrev pub time_by : Time → Time → Stamp → Time
time_by first time (Date day) = time_at first (local_at day (local_of first.stamp).second)
time_by first time (Floating local) = time
time_by first time (Utc local) = time
time_by first time (Zoned local) = time

-- the value by which an RDATE starts an event with this DTSTART. If the event has dates, a value of any form means its date
abbrev pub given_from : Time → Stamp → Rdate → Rdate
given_from first (Date day) rdate = At (date_only (time_of rdate))
given_from first stamp (At time) = At (time_by first time time.stamp)
given_from first stamp (Span start length) = Span start length

abbrev pub given_by : Time → Rdate → Rdate
given_by first rdate = given_from first first.stamp rdate

-- What gives the event a start, and the value that it gives. The local of DTSTART, or one that the rule keeps, gives the time at that local,
-- of DTSTART's kind and in its zone. An RDATE, by its place among them, gives what it means with this DTSTART.
abbrev pub GivesStart : Clocks → Event → StartSource → Rdate → Type 0
GivesStart clocks event (Kept local) given =
    ((local ≡ local_of event.start.stamp) ⊎ IsRuleStart clocks event local) × (given ≡ At (time_at event.start local))
GivesStart clocks event (Listed place) given =
    (rdate : Rdate) × (slice_get event.rdates place ≡ Some rdate) × (given ≡ given_by event.start rdate)
