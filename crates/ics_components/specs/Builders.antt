-- What the reader has of an event, of a time zone and of an observance, and what each is at its END.
-- These are the words of the pass over the lines.
use Rattle.std.specs.Prelude.{ℕ, List, flat_map, unwrap_or, option_map, pos}
use Rattle.ics_fields.specs.Locals.{local_at}
use Rattle.ics_fields.specs.Observances.{ObservanceSaid}
use Rattle.ics_components.specs.declared.builder.Builder.{Builder}
use Rattle.ics_components.specs.declared.builder.Builder.TheVariants as builder
use Rattle.ics_components.specs.declared.observance_builder.ObservanceBuilder.{ObservanceBuilder}
use Rattle.ics_components.specs.declared.builder.ZoneBuilder.{ZoneBuilder}
use Rattle.ics_components.specs.declared.component.Context.{Context}
use Rattle.ics_components.specs.declared.component.Context.TheVariants as context
use Rattle.ics_components.specs.declared.event_fields.EventFields.{EventFields}
use Rattle.ics_components.specs.declared.name.Name.TheVariants as name
use Rattle.ics_components.specs.declared.parsed_file.CalendarZone.{CalendarZone}
use Rattle.ics_values.specs.Integers.{integer_of}
use Rattle.ics_values.specs.TextNames.{text_read, texts_of}
use Rattle.ics_components.specs.Faults.{first_text, first_time, duration_on, parts_on, listed_on}
use Rattle.ics_components.specs.declared.date_values.Listing.{Listing}
use Rattle.ics_components.specs.declared.date_values.Listing.TheVariants as listing
use Rattle.ics_values.specs.declared.time.Rdate.{Rdate}
use Rattle.ics_components.specs.Observances.{onset_on, offset_on, daily_on, onsets_by}
use Rattle.ics_components.specs.PlacedLines.{Placed, first_named, value, all_named}
use Rattle.ics_components.specs.SecondRound.{zone_named}
use Rattle.ics_components.specs.Values.{ok_or_zero, is_cancelled}

-- what all values of a line list
abbrev pub rdates_on : Listing → Placed → List (Rdate (List ℕ))
rdates_on listing line = (listed_on listing line).values

-- WHAT IS COLLECTED of the lines that stand directly in a component: an event
abbrev pub collected_of : List Placed → EventFields
collected_of lines = record {
  uid = first_text name.Uid lines;
  start = first_time name.Dtstart lines;
  end = first_time name.Dtend lines;
  duration = option_map duration_on (first_named name.Duration lines);
  rule = option_map parts_on (first_named name.Rrule lines);
  rdates = flat_map (rdates_on listing.Rdate) (all_named name.Rdate lines);
  exdates = flat_map (rdates_on listing.Exdate) (all_named name.Exdate lines);
  recurrence = first_time name.RecurrenceId lines;
  sequence = option_map (λ line. ok_or_zero (integer_of (value line))) (first_named name.Sequence lines);
  texts = texts_of (λ text. option_map (λ line. text_read text (value line)) (first_named (name.Text text) lines));
  cancelled = option_map (λ line. is_cancelled (value line)) (first_named name.Status lines);
}

-- a time zone whose observances are these
abbrev pub zone_of : List ObservanceSaid → List Placed → ZoneBuilder
zone_of observances lines = record { name = first_text name.Tzid lines; observances = observances }

-- an observance
abbrev pub observance_of : List Placed → ObservanceBuilder
observance_of lines = record {
  start = option_map onset_on (first_named name.Dtstart lines);
  from = option_map offset_on (first_named name.OffsetFrom lines);
  to = option_map offset_on (first_named name.OffsetTo lines);
  rule = option_map daily_on (first_named name.Rrule lines);
  rdates = flat_map onsets_by (all_named name.Rdate lines);
}

abbrev pub builder_at : List ObservanceSaid → List Placed → Context → Builder
builder_at observances lines context.Calendar = builder.Calendar
builder_at observances lines context.Event = builder.Event (collected_of lines)
builder_at observances lines context.Zone = builder.Zone (zone_of observances lines)
builder_at observances lines context.Observance = builder.Observance (observance_of lines)
builder_at observances lines _ = builder.Elsewhere

-- WHAT HAS ENDED, with what is collected of it. An accepted file has the fields that are asked for.
abbrev pub zone_ended : ℕ → ZoneBuilder → CalendarZone
zone_ended calendar had = record { name = zone_named calendar had.name; observances = had.observances }

abbrev pub observance_ended : ObservanceBuilder → ObservanceSaid
observance_ended had = record {
  start = unwrap_or had.start (local_at (pos 0) 0);
  offset_from = unwrap_or had.from (pos 0);
  offset_to = unwrap_or had.to (pos 0);
  rule = had.rule;
  rdates = had.rdates;
}
