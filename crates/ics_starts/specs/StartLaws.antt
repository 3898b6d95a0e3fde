-- Laws of the occurrences of one event.
use Rattle.std.specs.Prelude.{◌≡◌, ◌≢◌, ◌↔◌, ◌≤◌, ◌≤ℤ◌, ℤ, true, false, List, [], Some, None, All, Contains, length}
use Rattle.ics_fields.specs.Locals.{local_seconds}
use Rattle.ics_fields.specs.RuleParts.{RuleParts}
use Rattle.ics_fields.specs.declared.local.Local.{Local}
use Rattle.ics_fields.specs.declared.until.Until.TheVariants as until
use Rattle.ics_period.specs.declared.kind.Kind.TheVariants.{DateTime}
use Rattle.ics_event.specs.Event.{IsRdate, IsTime}
use Rattle.ics_event.specs.declared.event.Event.{Event}
use Rattle.ics_event.specs.Event.{Rdate}
use Rattle.ics_values.specs.declared.time.Rdate.TheVariants.{At}
use Rattle.ics_event.specs.Event.{Time}
use Rattle.ics_starts.specs.declared.zones.FileZones.{FileZones}
use Rattle.ics_listing.specs.FileClocks.{Clocks}
use Rattle.ics_starts.specs.Clocks.{instant}
use Rattle.ics_starts.specs.Exclusions.{excludes, is_excluded}
use Rattle.ics_starts.specs.Finish.{finish}
use Rattle.ics_listing.specs.StartOrder.{source_cmp}
use Rattle.ics_starts.specs.RawStarts.{most_in_days, raw_in, IsRaw}
use Rattle.ics_listing.specs.Listing.{IsListing}
use Rattle.ics_starts.specs.Instances.{IsInstance}
use Rattle.ics_starts.specs.Starts.{kind_of, GivesStart}
use Rattle.ics_listing.specs.StartTimes.{local_of, time_of}
use Rattle.ics_listing.specs.declared.start.StartSource.{StartSource}
use Rattle.ics_listing.specs.declared.start.StartSource.TheVariants.{Kept}
use Rattle.ics_starts.specs.FileZones.{clocks_in}

-- each start that a source gives an event is that of an occurrence, if DTSTART is in the years of stamps and no EXDATE removes the start
abbrev pub EachStart : Type 0
EachStart =
    (clocks : Clocks) (event : Event) (source : StartSource) (given : Rdate) → IsTime event.start → GivesStart clocks event source given
    → is_excluded clocks event (instant clocks (time_of given)) ≡ false → (end : ℤ) × IsInstance clocks event (instant clocks (time_of given)) end

-- an event with this rule, but without UNTIL, in place of its own
abbrev pub unbounded_by : Event → RuleParts → Event
unbounded_by event parts = record event { rule = Some (record parts { until = None }) }

-- The starts that an event with date-times has by a rule with an UNTIL in UTC are, but for DTSTART, exactly those by the same rule without UNTIL
-- that are not after that instant.
abbrev pub StartsByUntil : Type 0
StartsByUntil =
    (clocks : Clocks) (event : Event) (parts : RuleParts) (last local : Local) (given : Rdate) → event.rule ≡ Some parts →
    parts.until ≡ Some (until.Utc last) → kind_of event.start.stamp ≡ DateTime → local ≢ local_of event.start.stamp
    → GivesStart clocks event (Kept local) given
    ↔ (GivesStart clocks (unbounded_by event parts) (Kept local) given × (instant clocks (time_of given) ≤ℤ local_seconds last))

-- an event without a rule and without RDATEs occurs at its DTSTART alone
abbrev pub OneStart : Type 0
OneStart =
    (clocks : Clocks) (event : Event) (start end : ℤ) → event.rule ≡ None → event.rdates ≡ []
    → IsInstance clocks event start end → (start ≡ instant clocks event.start) × (end ≡ finish clocks event (At event.start))

-- no occurrence has a start that an EXDATE removes
abbrev pub NoneExcluded : Type 0
NoneExcluded =
    (clocks : Clocks) (event : Event) (exdate : Time) (start end : ℤ) → Contains event.exdates exdate
    → excludes clocks event.start exdate start ≡ true → ¬ IsInstance clocks event start end

-- the number of the starts that an event has in five UTC days is the length of the one list of their sources
abbrev pub RawCounted : Type 0
RawCounted =
    (clocks : Clocks) (event : Event) (day : ℤ) → IsTime event.start
    → (sources : List StartSource) × IsListing source_cmp (IsRaw clocks event day) sources × (length sources ≡ raw_in clocks event day)

-- no five UTC days in a row have more starts than the greatest number, and some have as many
abbrev pub MostInDays : Type 0
MostInDays =
    (zones : FileZones) (event : Event) → IsTime event.start → All IsRdate event.rdates
    → ((day : ℤ) → raw_in (clocks_in zones) event day ≤ most_in_days (clocks_in zones) event)
    × (day : ℤ) × (most_in_days (clocks_in zones) event ≡ raw_in (clocks_in zones) event day)
