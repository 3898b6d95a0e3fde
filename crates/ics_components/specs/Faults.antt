-- WHICH FAULT STANDS ON WHICH LINE: one case for each kind (RFC 5545, sections 3.1, 3.4, 3.6.1, 3.6.5 and 3.8).
use Rattle.std.specs.Prelude.{ℕ, Bool, false, ◌&&◌, ◌||◌, not, nat_le, List, [], ◌∷◌, map, length, codes, Option, is_some, is_none, option_map}
use Rattle.std.specs.Prelude.{Result, ℤ}
use Rattle.std.specs.List.{list_all, list_any}
use Rattle.std.specs.Str.{bytes_eq}
use Rattle.ics_text.specs.Bytes.{upper}
use Rattle.ics_text.specs.ContentLines.{param_of}
use Rattle.ics_values.specs.Integers.{integer_of}
use Rattle.ics_values.specs.Offsets.{offset_of}
use Rattle.ics_values.specs.Plain.{text_of}
use Rattle.ics_fields.specs.RuleParts.{RuleParts}
use Rattle.ics_values.specs.Rules.{rule_of}
use Rattle.ics_values.specs.Stamps.{stamp_of}
use Rattle.ics_values.specs.declared.duration.Duration.{Duration}
use Rattle.ics_values.specs.declared.duration.DurationFault.{DurationFault}
use Rattle.ics_values.specs.declared.integer.IntegerFault.{IntegerFault}
use Rattle.ics_values.specs.declared.offset.BadOffset.{BadOffset as NoOffset}
use Rattle.ics_values.specs.declared.rule_text.RuleFault.{RuleFault}
use Rattle.ics_values.specs.declared.stamp.Stamp.{Stamp}
use Rattle.ics_values.specs.declared.stamp.StampFault.{StampFault}
use Rattle.ics_components.specs.declared.component.Context.{Context}
use Rattle.ics_components.specs.declared.component.Context.TheVariants as context
use Rattle.ics_components.specs.declared.date_list.DateList.{DateList}
use Rattle.ics_components.specs.declared.date_values.Listing.{Listing}
use Rattle.ics_components.specs.declared.date_values.Listing.TheVariants.{Rdate, Exdate}
use Rattle.ics_values.specs.declared.time.Time.{Time}
use Rattle.ics_components.specs.declared.fault.FaultKind.{FaultKind}
use Rattle.ics_components.specs.declared.fault.FaultKind.TheVariants.{BadLine, BadStamp, BadDuration, BadOffset, BadRule, YearRange, NumberTooLarge}
use Rattle.ics_components.specs.declared.fault.FaultKind.TheVariants.{NoObservance, ObservanceField, ZoneRule, NotCalendar, BadNesting, TooDeep, MissingUid}
use Rattle.ics_components.specs.declared.fault.FaultKind.TheVariants.{MissingStart}
use Rattle.ics_components.specs.declared.fault.FaultKind.TheVariants.{Repeated, BadEnd, UnknownZone, ThisAndFuture, Exrule, OldVersion, BadZoneFile}
use Rattle.ics_components.specs.declared.name.Name.{Name}
use Rattle.ics_components.specs.declared.name.Name.TheVariants as name
use Rattle.ics_components.specs.Components.{is_outside_context, is_calendar_context, is_event_context, is_zone_context, is_observance_context}
use Rattle.ics_components.specs.DateValues.{DateValue, At, values_of, has_bad_stamp, has_far_stamp, has_bad_duration, has_large_duration}
use Rattle.ics_components.specs.DateValues.{is_not_local, list_of}
use Rattle.ics_components.specs.Names.{same_name}
use Rattle.ics_components.specs.PlacedLines.{Placed, context_of, name_on, value, params_of, component, closes, begins_observance, has, first_named}
use Rattle.ics_components.specs.Values.{zone_name, stamp_read, duration_in, rule_in, time_of, is_bad_stamp, is_far_stamp, lasting_of, is_bad_duration}
use Rattle.ics_components.specs.Values.{is_large_duration, is_bad_offset, is_bad_rule, is_large_rule, is_fine_rule, is_large_integer, is_filled, ends_badly}

-- WHAT A VALUE IS READ AS: a stamp, the values of an RDATE or an EXDATE, a duration, an offset, a rule, a number, or a text, which has no fault.
pub data Reading : Type 0 where
  Stamped : Result Stamp StampFault → Reading
  Dates : List DateValue → Reading
  Lasting : Result Duration DurationFault → Reading
  Offset : Result ℤ NoOffset → Reading
  Rule : Result RuleParts RuleFault → Reading
  Number : Result ℕ IntegerFault → Reading
  Plain : Reading

-- in an event, with these parameters; a TZID counts
abbrev pub event_reading : Name → List ℕ → List ℕ → Reading
event_reading name.Dtstart params value = Stamped (stamp_read params value)
event_reading name.Dtend params value = Stamped (stamp_read params value)
event_reading name.RecurrenceId params value = Stamped (stamp_read params value)
event_reading name.Rdate params value = Dates (values_of Rdate (is_some (zone_name params)) value)
event_reading name.Exdate params value = Dates (values_of Exdate (is_some (zone_name params)) value)
event_reading name.Duration params value = Lasting (lasting_of value)
event_reading name.Rrule params value = Rule (rule_of value)
event_reading name.Sequence params value = Number (integer_of value)
event_reading _ params value = Plain

-- in an observance; a TZID beside it is disregarded
abbrev pub observance_reading : Name → List ℕ → Reading
observance_reading name.Dtstart value = Stamped (stamp_of false value)
observance_reading name.Rdate value = Dates (values_of Rdate false value)
observance_reading name.OffsetFrom value = Offset (offset_of value)
observance_reading name.OffsetTo value = Offset (offset_of value)
observance_reading name.Rrule value = Rule (rule_of value)
observance_reading _ value = Plain

abbrev pub reading_in : Context → Name → List ℕ → List ℕ → Reading
reading_in context.Event n params value = event_reading n params value
reading_in context.Observance n params value = observance_reading n value
reading_in _ n params value = Plain

-- the values that are stamps or PERIODs
abbrev pub dates_said : Reading → List DateValue
dates_said (Stamped stamp) = At stamp ∷ []
dates_said (Dates values) = values
dates_said _ = []

-- whether it has a fault of that kind
abbrev pub is_misread : FaultKind → Reading → Bool
is_misread BadStamp (Stamped stamp) = is_bad_stamp stamp
is_misread BadStamp (Dates values) = list_any has_bad_stamp values
is_misread BadDuration (Dates values) = list_any has_bad_duration values
is_misread BadDuration (Lasting duration) = is_bad_duration duration
is_misread BadOffset (Offset offset) = is_bad_offset offset
is_misread BadRule (Rule rule) = is_bad_rule rule
is_misread YearRange (Stamped stamp) = is_far_stamp stamp
is_misread YearRange (Dates values) = list_any has_far_stamp values
is_misread NumberTooLarge (Dates values) = list_any has_large_duration values
is_misread NumberTooLarge (Lasting duration) = is_large_duration duration
is_misread NumberTooLarge (Rule rule) = is_large_rule rule
is_misread NumberTooLarge (Number number) = is_large_integer number
is_misread _ _ = false

-- whether an observance does not take it: its stamps are locals, and its rule is no finer than daily
abbrev pub is_unfit : FaultKind → Reading → Bool
is_unfit ObservanceField (Stamped stamp) = is_not_local (At stamp)
is_unfit ObservanceField (Dates values) = list_any is_not_local values
is_unfit ZoneRule (Rule rule) = is_fine_rule rule
is_unfit _ _ = false

-- the properties that an event has at most once, and those that a time zone or an observance has exactly once
abbrev pub single_names : List Name
single_names = name.Uid ∷ name.Dtstart ∷ name.Dtend ∷ name.Duration ∷ name.Rrule ∷ name.RecurrenceId ∷ name.Sequence ∷ []

abbrev pub field_names : Context → List Name
field_names context.Zone = name.Tzid ∷ []
field_names context.Observance = name.Dtstart ∷ name.OffsetFrom ∷ name.OffsetTo ∷ []
field_names _ = []

abbrev pub is_one_of : List Name → Name → Bool
is_one_of names n = list_any (same_name n) names

-- A LINE as it is judged: where it stands, what its property is called and says, how many components are open, and whether its value names the innermost.
pub record Judged : Type 0 where
  pub context : Context
  pub name : Name
  pub params : List ℕ
  pub value : List ℕ
  pub depth : ℕ
  pub closes : Bool

-- WHAT STANDS BESIDE IT, before it and directly in the same component: properties by their names, what the first UID, DTSTART and DTEND say, and whether
-- an observance begins there.
pub record Beside : Type 0 where
  pub has : Name → Bool
  pub uid : Option (List ℕ)
  pub start : Option (Time (List ℕ))
  pub end : Option (Time (List ℕ))
  pub observed : Bool

abbrev pub reading : Judged → Reading
reading line = reading_in line.context line.name line.params line.value

abbrev pub is_begin_of : List ℕ → Judged → Bool
is_begin_of word line = same_name line.name name.Begin && bytes_eq (map upper line.value) word

-- an END that matches the innermost BEGIN, and that of an event
abbrev pub ends : Judged → Bool
ends line = same_name line.name name.End && line.closes

abbrev pub is_event_end : Judged → Bool
is_event_end line = is_event_context line.context && ends line

-- THE TABLE. Does this fault stand on the line, which is a content line?
abbrev pub faulty : FaultKind → Beside → Judged → Bool
faulty BadStamp beside line = is_misread BadStamp (reading line)
faulty BadDuration beside line = is_misread BadDuration (reading line)
faulty BadOffset beside line = is_misread BadOffset (reading line)
faulty BadRule beside line = is_misread BadRule (reading line)
faulty YearRange beside line = is_misread YearRange (reading line)
faulty NumberTooLarge beside line = is_misread NumberTooLarge (reading line)
faulty NoObservance beside line = is_zone_context line.context && ends line && not beside.observed
faulty ObservanceField beside line =
    (is_observance_context line.context && is_unfit ObservanceField (reading line))
    || (is_one_of (field_names line.context) line.name && beside.has line.name)
    || (ends line && not (list_all beside.has (field_names line.context)))
faulty ZoneRule beside line =
    is_observance_context line.context
    && (is_unfit ZoneRule (reading line) || (same_name line.name name.Rrule && beside.has name.Rrule))
faulty NotCalendar beside line = is_outside_context line.context && not (is_begin_of (codes "VCALENDAR") line)
faulty BadNesting beside line = same_name line.name name.End && not line.closes
faulty TooDeep beside line = same_name line.name name.Begin && nat_le 32 line.depth
faulty MissingUid beside line = is_event_end line && not (is_filled beside.uid)
faulty MissingStart beside line = is_event_end line && not (beside.has name.Dtstart)
faulty Repeated beside line = is_event_context line.context && is_one_of single_names line.name && beside.has line.name
faulty BadEnd beside line =
    is_event_end line && ((beside.has name.Dtend && beside.has name.Duration) || ends_badly beside.start beside.end)
faulty ThisAndFuture beside line =
    is_event_context line.context && (same_name line.name name.RecurrenceId && is_some (param_of (codes "RANGE") line.params))
faulty Exrule beside line = is_event_context line.context && same_name line.name name.Exrule
faulty OldVersion beside line = is_calendar_context line.context && (same_name line.name name.Version && bytes_eq line.value (codes "1.0"))
faulty _ beside line = false

-- the kinds of faults on lines, the least first
abbrev pub kinds : List FaultKind
kinds =
    BadLine ∷ BadStamp ∷ BadDuration ∷ BadOffset ∷ BadRule ∷ YearRange ∷ NumberTooLarge ∷ NoObservance ∷ ObservanceField ∷ ZoneRule ∷ NotCalendar ∷ BadNesting
    ∷ TooDeep ∷ MissingUid ∷ MissingStart ∷ Repeated ∷ BadEnd ∷ UnknownZone ∷ ThisAndFuture ∷ Exrule ∷ OldVersion ∷ BadZoneFile ∷ []

-- WHAT A LINE OF A FILE SAYS in its place: what its value is read as, as a stamp with the name of its zone, as a duration, as a rule, and as a list of dates
abbrev pub judged_as : Placed → Judged
judged_as line = record {
  context = context_of line.path;
  name = name_on line.content;
  params = params_of line.content;
  value = value line;
  depth = length line.path;
  closes = closes line.path (component line);
}

abbrev pub reading_on : Placed → Reading
reading_on line = reading (judged_as line)

abbrev pub time_on : Placed → Time (List ℕ)
time_on line = time_of (params_of line.content) (value line)

abbrev pub duration_on : Placed → Duration
duration_on line = duration_in (lasting_of (value line))

abbrev pub rule_on : Placed → Result RuleParts RuleFault
rule_on line = rule_of (value line)

abbrev pub parts_on : Placed → RuleParts
parts_on line = rule_in (rule_on line)

abbrev pub listed_on : Listing → Placed → DateList
listed_on listing line = list_of listing (params_of line.content) (value line)

-- what the first of the lines with that name says
abbrev pub first_text : Name → List Placed → Option (List ℕ)
first_text n lines = option_map (λ line. text_of (value line)) (first_named n lines)

abbrev pub first_time : Name → List Placed → Option (Time (List ℕ))
first_time n lines = option_map time_on (first_named n lines)

abbrev pub beside_by : List Placed → Beside
beside_by lines = record {
  has = λ n. has n lines;
  uid = first_text name.Uid lines;
  start = first_time name.Dtstart lines;
  end = first_time name.Dtend lines;
  observed = list_any begins_observance lines;
}

-- THE FIRST ROUND. Does this fault stand on the line? The lines beside it are those before it that stand directly in the same component.
abbrev pub stands : FaultKind → List Placed → Placed → Bool
stands BadLine beside line = is_none line.content
stands kind beside line = faulty kind (beside_by beside) (judged_as line)
