-- An event of a file, by what its lines give, with the zones of the file (RFC 5545, section 3.6.1).
use Rattle.std.specs.Prelude.{ℕ, false, List, [], map, option_map, unwrap_or, Option, Some, None, pos}
use Rattle.ics_values.specs.Times.{map_time, map_length, map_rdate, start_of}
use Rattle.ics_values.specs.declared.duration.Duration.{Duration}
use Rattle.ics_values.specs.declared.stamp.Stamp.TheVariants.{Date}
use Rattle.ics_values.specs.declared.time.Length.{Length}
use Rattle.ics_values.specs.declared.time.Length.TheVariants.{Open, Until, Lasting}
use Rattle.ics_values.specs.declared.time.Time.{Time}
use Rattle.ics_components.specs.declared.deferred_check.ZoneName.{ZoneName}
use Rattle.ics_components.specs.declared.event_fields.EventFields.{EventFields}
use Rattle.ics_components.specs.SecondRound.{zone_named}
use Rattle.ics_event.specs.Event.{EventSeen}

-- The index of the zone that a calendar calls by that name.
abbrev pub zone_at : (ZoneName → Option ℕ) → ℕ → List ℕ → Option ℕ
zone_at index calendar name = index (zone_named calendar (Some name))

-- the start that the event of an accepted file has
abbrev pub start_in : Option (Time (List ℕ)) → Time (List ℕ)
start_in start = unwrap_or start (record { stamp = Date (pos 0); zone = None })

-- What gives the length of an event: its DTEND, or its DURATION, or nothing.
abbrev pub given_length : Option (Time (List ℕ)) → Option Duration → Length (List ℕ)
given_length (Some end) duration = Until end
given_length None (Some duration) = Lasting duration
given_length None None = Open

-- THE EVENT of a calendar, given the index of the zone that a name stands for. An accepted file gives the fields that are asked for.
abbrev pub event_of : (ZoneName → Option ℕ) → ℕ → EventFields → EventSeen
event_of index calendar had = record {
  uid = unwrap_or had.uid [];
  sequence = unwrap_or had.sequence 0;
  start = map_time (zone_at index calendar) (start_in had.start);
  length = map_length (zone_at index calendar) (given_length had.end had.duration);
  rule = had.rule;
  rdates = map (map_rdate (zone_at index calendar)) had.rdates;
  exdates = map (λ exdate. map_time (zone_at index calendar) (start_of exdate)) had.exdates;
  recurrence = option_map (map_time (zone_at index calendar)) had.recurrence;
  title = unwrap_or had.texts.title [];
  location = unwrap_or had.texts.location [];
  description = unwrap_or had.texts.description [];
  cancelled = unwrap_or had.cancelled false;
  url = unwrap_or had.texts.url [];
}
