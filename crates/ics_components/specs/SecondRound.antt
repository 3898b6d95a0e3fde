-- What the second round looks at: the time zones of stamps, and an end against its start (RFC 5545, sections 3.2.19 and 3.8.2.2).
use Rattle.std.specs.Prelude.{ℕ, Bool, ◌&&◌, List, [], Option, Some, None, option_map, unwrap_or, if◌then◌else◌}
use Rattle.std.specs.List.{list_any}
use Rattle.ics_values.specs.declared.stamp.Stamp.{Stamp}
use Rattle.ics_values.specs.declared.stamp.Stamp.TheVariants as stamp
use Rattle.ics_components.specs.declared.date_list.DateList.{DateList}
use Rattle.ics_values.specs.declared.time.Time.{Time}
use Rattle.ics_components.specs.declared.deferred_check.Instant.{Instant}
use Rattle.ics_components.specs.declared.deferred_check.Instant.TheVariants as instant
use Rattle.ics_components.specs.declared.deferred_check.DeferredCheck.{DeferredCheck}
use Rattle.ics_components.specs.declared.deferred_check.DeferredCheck.TheVariants as check
use Rattle.ics_components.specs.declared.deferred_check.ZoneName.{ZoneName}
use Rattle.ics_components.specs.DateValues.{has_zoned}
use Rattle.ics_values.specs.Zoned.{is_zoned}
use Rattle.ics_fields.specs.Locals.{local_seconds}
use Rattle.ics_components.specs.Values.{is_out, same_zone}

-- the time zone that a TZID names in a calendar
abbrev pub zone_named : ℕ → Option (List ℕ) → ZoneName
zone_named calendar zone = record { calendar = calendar; name = unwrap_or zone [] }

-- the time zone of a stamp, and of what a line lists, if there is one
abbrev pub time_zone : ℕ → Time (List ℕ) → Option ZoneName
time_zone calendar time = if is_zoned time.stamp then Some (zone_named calendar time.zone) else None

abbrev pub list_zone : ℕ → DateList → Option ZoneName
list_zone calendar list = if list_any has_zoned list.values then Some (zone_named calendar list.zone) else None

-- It is to be known.
abbrev pub zone_check : Option ZoneName → Option DeferredCheck
zone_check zone = option_map check.Zone zone

-- a stamp that is an instant: one in UTC, or in a time zone
abbrev pub instant_on : ZoneName → Stamp → Option Instant
instant_on name (stamp.Utc local) = Some (instant.Utc local)
instant_on name (stamp.Zoned local) = Some (instant.Zoned local name)
instant_on name _ = None

abbrev pub instant_in : ℕ → Time (List ℕ) → Option Instant
instant_in calendar time = instant_on (zone_named calendar time.zone) time.stamp

-- two stamps beside one TZID, which the first round compares as locals
abbrev pub are_of_one_zone : Time (List ℕ) → Time (List ℕ) → Bool
are_of_one_zone a b = is_zoned a.stamp && (is_zoned b.stamp && same_zone a b)

-- Times of UTC compare at once, and other instants when the zones are known.
abbrev pub compared : Instant → Instant → Option DeferredCheck
compared (instant.Utc a) (instant.Utc b) = if is_out (local_seconds a) (local_seconds b) then Some check.End else None
compared a b = Some (check.Ends a b)

abbrev pub both_compared : Option Instant → Option Instant → Option DeferredCheck
both_compared (Some a) (Some b) = compared a b
both_compared _ _ = None

abbrev pub ends_in : ℕ → Option (Time (List ℕ)) → Option (Time (List ℕ)) → Option DeferredCheck
ends_in calendar (Some start) (Some end) = if are_of_one_zone start end then None else both_compared (instant_in calendar start) (instant_in calendar end)
ends_in calendar _ _ = None
