-- The checks of the second round, when all time zones of the file are known (RFC 5545, section 3.8.2.4).
use Rattle.std.specs.Prelude.{ℕ, Bool, false, ◌&&◌, ◌||◌, not, ◌==◌, List, slice_get, Option, Some, None, is_some, option_map, ℤ, ◌++◌}
use Rattle.std.specs.Prelude.{if◌then◌else◌}
use Rattle.std.specs.Prelude.{length}
use Rattle.std.specs.List.{position, position_from, list_any}
use Rattle.std.specs.Option.{option_and_then, option_or}
use Rattle.std.specs.Str.{bytes_eq}
use Rattle.ics_zone.specs.ZoneSaid.{ZoneSaid, said_moment}
use Rattle.ics_values.specs.declared.time.Time.{Time}
use Rattle.ics_components.specs.declared.fault.FaultKind.{FaultKind}
use Rattle.ics_components.specs.declared.fault.FaultKind.TheVariants.{BadEnd, UnknownZone, BadZoneFile}
use Rattle.ics_components.specs.declared.deferred_check.Instant.{Instant}
use Rattle.ics_components.specs.declared.deferred_check.Instant.TheVariants as instant
use Rattle.ics_components.specs.declared.deferred_check.DeferredCheck.{DeferredCheck}
use Rattle.ics_components.specs.declared.deferred_check.DeferredCheck.TheVariants as check
use Rattle.ics_components.specs.declared.deferred_check.ZoneName.{ZoneName}
use Rattle.ics_fields.specs.Locals.{local_seconds}
use Rattle.ics_calendar.specs.GivenFiles.{GivenFiles, given_names, given_zones, bad_names}
use Rattle.ics_components.specs.Values.{is_out}
use Rattle.ics_components.specs.SecondRound.{instant_in, are_of_one_zone}

-- the same name in the same calendar
abbrev pub is_same : ZoneName → ZoneName → Bool
is_same a b = a.calendar == b.calendar && bytes_eq a.name b.name

-- The time zones of a file, the index of the one that a name stands for, and the names for which a file is given that is no zone file.
pub record KnownZones : Type 0 where
  pub index : ZoneName → Option ℕ
  pub zones : List ZoneSaid
  pub is_bad : List ℕ → Bool

-- Of several zones with one TZID in one calendar the first counts.
abbrev pub known_zones : List ZoneName → List ZoneSaid → KnownZones
known_zones names zones = record { index = λ used. position (is_same used) names; zones = zones; is_bad = λ name. false }

-- The time zones of a file, and behind them those of the zone files for the names that it wants. A VTIMEZONE goes first.
abbrev pub with_files : KnownZones → GivenFiles → List (List ℕ) → KnownZones
with_files known files names = record {
  index = λ used. option_or (known.index used) (position_from (bytes_eq used.name) (length known.zones) (given_names files names));
  zones = known.zones ++ given_zones files names;
  is_bad = λ name. known.is_bad name || list_any (bytes_eq name) (bad_names files names);
}

-- out of reach as instants, where there are both
abbrev pub are_out : Option ℤ → Option ℤ → Bool
are_out (Some start) (Some end) = is_out start end
are_out _ _ = false

-- THE STAMPS OF AN EVENT in a calendar: the instant of a stamp in UTC, or in a zone that is known.
abbrev pub moment_of : KnownZones → Instant → Option ℤ
moment_of known (instant.Utc local) = Some (local_seconds local)
moment_of known (instant.Zoned local name) =
    option_map (λ zone. said_moment zone (local_seconds local)) (option_and_then (slice_get known.zones) (known.index name))

abbrev pub moment_in : KnownZones → ℕ → Time (List ℕ) → Option ℤ
moment_in known calendar time = option_and_then (moment_of known) (instant_in calendar time)

-- Which ends are out of reach of their starts as instants.
abbrev pub ends_badly_later : KnownZones → ℕ → Option (Time (List ℕ)) → Option (Time (List ℕ)) → Bool
ends_badly_later known calendar (Some start) (Some end) =
    not (are_of_one_zone start end) && are_out (moment_in known calendar start) (moment_in known calendar end)
ends_badly_later known calendar _ _ = false

-- WHAT A CHECK FINDS.
abbrev pub judged : KnownZones → DeferredCheck → Option FaultKind
judged known check.End = Some BadEnd
judged known (check.Zone name) =
    if is_some (known.index name) then None
    else if known.is_bad name.name then Some BadZoneFile
    else Some UnknownZone
judged known (check.Ends start end) = if are_out (moment_of known start) (moment_of known end) then Some BadEnd else None

-- the name of a time zone that is to be known, if it is not
abbrev pub unknown_in : (ZoneName → Option ℕ) → DeferredCheck → Option (List ℕ)
unknown_in index (check.Zone name) = if is_some (index name) then None else Some name.name
unknown_in index _ = None
