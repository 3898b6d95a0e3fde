-- A file of calendars as contracts see it, and what holds of its events where their times have time zones (RFC 5545, section 3.6.1).
use Rattle.std.specs.Prelude.{◌≡◌, ℕ, ◌==◌, Bool, true, false, List, map, Option, Some, None, is_some, ◌||◌, length, slice_get, All, ℤ, pos}
use Rattle.ics_fields.specs.declared.local.Local.{Local}
use Rattle.ics_values.specs.declared.stamp.Stamp.{Stamp}
use Rattle.ics_values.specs.declared.stamp.Stamp.TheVariants.{Utc, Zoned}
use Rattle.ics_zone.specs.ZoneSaid.{ZoneSaid, said_moment, zone_said}
use Rattle.ics_zone.specs.declared.zone.ZoneKind.{ZoneKind}
use Rattle.ics_values.specs.declared.time.Length.TheVariants.{Until}
use Rattle.ics_fields.specs.Locals.{local_seconds}
use Rattle.ics_event.specs.Event.{Time, Length, EventSeen, stamp_seconds, IsWithin, HasZonesBelow}

-- WHAT A FILE SAYS: its time zones, and its events, each in the order of their BEGIN lines.
pub record FileSaid : Type 0 where
  pub zones : List ZoneSaid
  pub events : List EventSeen

-- A file that has been read, with what each zone holds.
pub record FileSeen : Type 0 where
  pub zones : List ZoneKind
  pub events : List EventSeen

abbrev pub said_by : FileSeen → FileSaid
said_by file = record { zones = map zone_said file.zones; events = file.events }

-- the instant that a local means in a zone, if there is one
abbrev pub moment_by : Option ZoneSaid → Local → ℤ
moment_by (Some zone) local = said_moment zone (local_seconds local)
moment_by None local = local_seconds local

-- the instant of a stamp in UTC, or in one of these zones
abbrev pub moment_in : List ZoneSaid → Option ℕ → Stamp → ℤ
moment_in zones (Some index) (Zoned local) = moment_by (slice_get zones index) local
moment_in zones _ (Utc local) = local_seconds local
moment_in zones _ _ = pos 0

abbrev pub is_one_zone : Option ℕ → Option ℕ → Bool
is_one_zone (Some a) (Some b) = a == b
is_one_zone _ _ = false

-- two times of one zone compare as locals, others as instants
abbrev pub compared : Bool → List ZoneSaid → Time → ℤ
compared true zones time = stamp_seconds time.stamp
compared false zones time = moment_in zones time.zone time.stamp

-- Where DTSTART or DTEND has a zone, the end is within reach of the start.
abbrev pub EndsWithin : List ZoneSaid → Time → Length → Type 0
EndsWithin zones start (Until end) =
    (is_some start.zone || is_some end.zone) ≡ true
    → IsWithin (compared (is_one_zone start.zone end.zone) zones start) (compared (is_one_zone start.zone end.zone) zones end)
EndsWithin zones start _ = Unit {0}

-- What holds of each event of a file with these zones.
pub record IsEventOf (zones : List ZoneSaid) (event : EventSeen) : Type 0 where
  pub below : HasZonesBelow (length zones) event
  pub short : EndsWithin zones event.start event.length

abbrev pub AreEventsOf : List ZoneSaid → List EventSeen → Type 0
AreEventsOf zones events = All (IsEventOf zones) events
