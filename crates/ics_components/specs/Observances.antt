-- What the lines of a file say of its time zones and their observances (RFC 5545, section 3.6.5).
use Rattle.std.specs.Prelude.{ℕ, Bool, ◌&&◌, List, map, filter, filter_map, flat_map, codes, unwrap_or, option_map, Result, Ok, Err, ℤ}
use Rattle.std.specs.Prelude.{pos, false, None, if◌then◌else◌}
use Rattle.ics_fields.specs.Locals.{local_at}
use Rattle.ics_fields.specs.declared.local.Local.{Local}
use Rattle.ics_fields.specs.declared.frequency.Frequency.TheVariants.{Daily}
use Rattle.ics_values.specs.declared.offset.BadOffset.{BadOffset}
use Rattle.ics_values.specs.declared.rule_text.RuleFault.{RuleFault}
use Rattle.ics_values.specs.Offsets.{offset_of}
use Rattle.ics_fields.specs.RuleParts.{RuleParts, every}
use Rattle.ics_values.specs.Stamps.{stamp_of}
use Rattle.ics_values.specs.declared.stamp.Stamp.{Stamp}
use Rattle.ics_values.specs.declared.stamp.Stamp.TheVariants.{Floating}
use Rattle.ics_values.specs.declared.stamp.StampFault.{StampFault}
use Rattle.ics_fields.specs.Observances.{ObservanceSaid}
use Rattle.ics_components.specs.DateValues.{values_of, rdate_in, local_in}
use Rattle.ics_components.specs.declared.date_values.Listing.TheVariants.{Rdate}
use Rattle.ics_components.specs.declared.name.Name.TheVariants as name
use Rattle.ics_components.specs.declared.deferred_check.ZoneName.{ZoneName}
use Rattle.ics_components.specs.Faults.{first_text, rule_on}
use Rattle.ics_components.specs.PlacedLines.{Placed, value, in_calendar, in_zone, begins, begins_observance, calendar_of, lines_in, first_named, all_named}
use Rattle.ics_components.specs.SecondRound.{zone_named}
use Rattle.ics_components.specs.Values.{is_fine_rule, rule_in}

-- What its lines say of an observance that no fault stands on: a local read without a TZID, an offset, a rule no finer than daily, and locals.
abbrev pub onset_in : Result Stamp StampFault → Local
onset_in (Ok (Floating local)) = local
onset_in _ = local_at (pos 0) 0

abbrev pub offset_in : Result ℤ BadOffset → ℤ
offset_in (Ok offset) = offset
offset_in (Err fault) = pos 0

abbrev pub daily_in : Result RuleParts RuleFault → RuleParts
daily_in rule = if is_fine_rule rule then every Daily else rule_in rule

abbrev pub onset_on : Placed → Local
onset_on line = onset_in (stamp_of false (value line))

abbrev pub offset_on : Placed → ℤ
offset_on line = offset_in (offset_of (value line))

abbrev pub daily_on : Placed → RuleParts
daily_on line = daily_in (rule_on line)

-- the locals among the values of an RDATE
abbrev pub locals_of : List ℕ → List Local
locals_of text = filter_map local_in (map (rdate_in None) (values_of Rdate false text))

abbrev pub onsets_by : Placed → List Local
onsets_by line = locals_of (value line)

-- An observance, by the lines that stand directly in it. An accepted file has its fields.
abbrev pub observance_by : List Placed → ObservanceSaid
observance_by own = record {
  start = unwrap_or (option_map onset_on (first_named name.Dtstart own)) (local_at (pos 0) 0);
  offset_from = unwrap_or (option_map offset_on (first_named name.OffsetFrom own)) (pos 0);
  offset_to = unwrap_or (option_map offset_on (first_named name.OffsetTo own)) (pos 0);
  rule = option_map daily_on (first_named name.Rrule own);
  rdates = flat_map onsets_by (all_named name.Rdate own);
}

-- a time zone begins directly in a calendar, and an observance directly in such a zone
abbrev pub begins_zone : Placed → Bool
begins_zone line = in_calendar line && begins (codes "VTIMEZONE") line

abbrev pub begins_in_zone : Placed → Bool
begins_in_zone line = in_zone line && begins_observance line

-- The observances of the time zone that begins on that line, in the order of their BEGIN lines.
abbrev pub zone_by : List Placed → ℕ → List ObservanceSaid
zone_by lines begun = map (λ l. observance_by (lines_in l.number lines)) (filter begins_in_zone (lines_in begun lines))

-- the TZID of the zone that begins on a line, in its calendar
abbrev pub name_by : List Placed → Placed → ZoneName
name_by lines l = zone_named (calendar_of l.path) (first_text name.Tzid (lines_in l.number lines))

abbrev pub zone_names : List Placed → List ZoneName
zone_names lines = map (name_by lines) (filter begins_zone lines)
