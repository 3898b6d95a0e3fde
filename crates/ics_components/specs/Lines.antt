-- What the reader makes of a line: what it has of the components that are open, or the least fault on it, by the table.
-- These are the words of the pass over the lines. What a file is stands in Faults and Files, and the proofs show that they agree.
use Rattle.std.specs.Prelude.{ℕ, zero, suc, Bool, true, false, not, ◌==◌, List, [], ◌∷◌, ◌++◌, length, map, find, Option, Some, None, is_some}
use Rattle.std.specs.Prelude.{Result, Ok, Err, ◌≡◌}
use Rattle.std.specs.Option.{option_or}
use Rattle.std.specs.Ordering.{ord_min}
use Rattle.std.specs.Result.{result_map_both}
use Rattle.std.specs.Str.{bytes_eq}
use Rattle.ics_text.specs.Bytes.{upper}
use Rattle.ics_text.specs.ContentLines.{Parts}
use Rattle.ics_values.specs.Integers.{integer_of}
use Rattle.ics_values.specs.Offsets.{offset_of}
use Rattle.ics_values.specs.Plain.{text_of}
use Rattle.ics_values.specs.Rules.{rule_of}
use Rattle.ics_values.specs.Stamps.{stamp_of}
use Rattle.ics_values.specs.TextNames.{text_at, text_read, with_text}
use Rattle.ics_values.specs.declared.duration.Duration.{Duration}
use Rattle.ics_values.specs.declared.duration.DurationFault.{DurationFault}
use Rattle.ics_values.specs.declared.duration.DurationFault.TheVariants as duration
use Rattle.ics_values.specs.declared.rule_text.RuleFault.{RuleFault}
use Rattle.ics_values.specs.declared.rule_text.RuleFault.TheVariants as rule
use Rattle.ics_values.specs.declared.stamp.Stamp.{Stamp}
use Rattle.ics_values.specs.declared.stamp.StampFault.{StampFault}
use Rattle.ics_values.specs.declared.stamp.StampFault.TheVariants as stamp_fault
use Rattle.ics_components.specs.contracts.fault.FaultKindOrd.TheImpl as order
use Rattle.ics_components.specs.declared.builder.Builder.{Builder}
use Rattle.ics_components.specs.declared.builder.Builder.TheVariants as builder
use Rattle.ics_components.specs.declared.component.Component.{Component}
use Rattle.ics_components.specs.declared.component.Context.{Context}
use Rattle.ics_components.specs.declared.component.Context.TheVariants as context
use Rattle.ics_values.specs.declared.time.Length.TheVariants as length_of
use Rattle.ics_values.specs.declared.time.Rdate.{Rdate}
use Rattle.ics_values.specs.declared.time.Rdate.TheVariants as rdate
use Rattle.ics_values.specs.Times.{time_in}
use Rattle.ics_components.specs.declared.date_values.Listing.TheVariants as listing
use Rattle.ics_components.specs.declared.deferred_check.DeferredCheck.{DeferredCheck}
use Rattle.ics_components.specs.declared.deferred_check.ZoneName.{ZoneName}
use Rattle.ics_components.specs.declared.event_fields.EventFields.{EventFields}
use Rattle.ics_components.specs.declared.fault.FaultKind.{FaultKind}
use Rattle.ics_components.specs.declared.fault.FaultKind.TheVariants as kind
use Rattle.ics_components.specs.declared.frame.Frame.{Frame}
use Rattle.ics_components.specs.declared.parsed_file.ClosedComponent.{ClosedComponent}
use Rattle.ics_components.specs.declared.parsed_file.ClosedComponent.TheVariants as ended
use Rattle.ics_components.specs.declared.parsed_file.LineResult.{LineResult}
use Rattle.ics_components.specs.declared.name.Name.{Name}
use Rattle.ics_components.specs.declared.name.Name.TheVariants as name
use Rattle.ics_components.specs.declared.observance_builder.ObservanceBuilder.{ObservanceBuilder}
use Rattle.ics_components.specs.declared.property.Property.{Property}
use Rattle.ics_components.specs.declared.property.Property.TheVariants as property
use Rattle.ics_components.specs.declared.refused.Refused.{Refused}
use Rattle.ics_components.specs.declared.refused.Refused.TheVariants.{Memory, Fault}
use Rattle.ics_components.specs.declared.builder.ZoneBuilder.{ZoneBuilder}
use Rattle.ics_components.specs.Builders.{builder_at, zone_ended, observance_ended}
use Rattle.ics_components.specs.Components.{component_of, component_name, context_in}
use Rattle.ics_components.specs.DateValues.{DateValue, At, Between, Lasting, list_of}
use Rattle.ics_components.specs.Faults.{Reading, Beside, is_misread, is_unfit, faulty, kinds}
use Rattle.ics_components.specs.Observances.{locals_of, onset_in, offset_in, daily_in}
use Rattle.ics_components.specs.SecondRound.{time_zone, list_zone, zone_check, ends_in}
use Rattle.ics_components.specs.Values.{time_of, lasting_of, duration_in, rule_in, ok_or_zero, is_cancelled}

-- WHAT A FUNCTION ANSWERS: a value, where no fault stands there, or the fault; nothing is said where memory is refused.
abbrev pub Gives : {X : Type 0} → Result X Refused → Option FaultKind → X → Type 0
Gives (Ok x) fault value = (fault ≡ None) × (x ≡ value)
Gives (Err Memory) fault value = Unit {0}
Gives (Err (Fault kind)) fault value = fault ≡ Some kind

-- the same of one that changes what it is given, without an answer and with one
abbrev pub Keeps : {Y : Type 0} → Result Unit Refused → Y → Option FaultKind → Y → Type 0
Keeps (Ok x) now fault next = (fault ≡ None) × (now ≡ next)
Keeps (Err Memory) now fault next = Unit {0}
Keeps (Err (Fault kind)) now fault next = fault ≡ Some kind

abbrev pub Notes : {X Y : Type 0} → Result X Refused → Y → Option FaultKind → Y → X → Type 0
Notes (Ok x) now fault next value = (fault ≡ None) × (now ≡ next) × (x ≡ value)
Notes (Err Memory) now fault next value = Unit {0}
Notes (Err (Fault kind)) now fault next value = fault ≡ Some kind

-- what a line that has a fault leaves as it was
abbrev pub Leaves : {Y : Type 0} → Result Unit Refused → Y → Y → Type 0
Leaves (Ok taken) had now = Unit {0}
Leaves (Err Memory) had now = Unit {0}
Leaves (Err (Fault kind)) had now = now ≡ had

-- WHAT IS WRONG WITH A VALUE: the least fault of its reading, and why an observance does not take it.
abbrev pub misread : Reading → Option FaultKind
misread reading = find (λ kind. is_misread kind reading) kinds

abbrev pub unfit : Reading → Option FaultKind
unfit reading = option_or (misread reading) (find (λ kind. is_unfit kind reading) kinds)

abbrev pub stamp_judged : Result Stamp StampFault → Result Stamp FaultKind
stamp_judged (Ok s) = Ok s
stamp_judged (Err stamp_fault.BadStamp) = Err kind.BadStamp
stamp_judged (Err stamp_fault.YearRange) = Err kind.YearRange

abbrev pub duration_judged : Result Duration DurationFault → Result Duration FaultKind
duration_judged (Ok d) = Ok d
duration_judged (Err duration.BadDuration) = Err kind.BadDuration
duration_judged (Err duration.NumberTooLarge) = Err kind.NumberTooLarge

abbrev pub rule_kind : RuleFault → FaultKind
rule_kind rule.BadRule = kind.BadRule
rule_kind rule.NumberTooLarge = kind.NumberTooLarge

-- what two values make, or the lesser fault
abbrev pub both : {A B C : Type 0} → (A → B → C) → Result A FaultKind → Result B FaultKind → Result C FaultKind
both made (Ok a) (Ok b) = Ok (made a b)
both made (Ok a) (Err kind) = Err kind
both made (Err kind) (Ok b) = Err kind
both made (Err had) (Err kind) = Err (ord_min order.ghosts.cmp had kind)

-- what a value of an RDATE or an EXDATE says beside a TZID with that name, or its least fault
abbrev pub judged : Option (List ℕ) → DateValue → Result (Rdate (List ℕ)) FaultKind
judged zone (At stamp) = result_map_both (λ at. rdate.At (time_in zone at)) (λ kind. kind) (stamp_judged stamp)
judged zone (Between start end) =
    both (λ from to. rdate.Span (time_in zone from) (length_of.Until (time_in zone to))) (stamp_judged start) (stamp_judged end)
judged zone (Lasting start duration) =
    both (λ from lasts. rdate.Span (time_in zone from) (length_of.Lasting lasts)) (stamp_judged start) (duration_judged duration)

-- an answer that is that result, or memory is refused
abbrev pub Answers : {X : Type 0} → Result X Refused → Result X FaultKind → Type 0
Answers (Ok x) result = result ≡ Ok x
Answers (Err Memory) result = Unit {0}
Answers (Err (Fault kind)) result = result ≡ Err kind

-- A PROPERTY of an event: what it says, what is collected with it, and the time zone of its stamps.
abbrev pub event_property : Name → Parts → Property
event_property name.Uid c = property.Uid (text_of c.value)
event_property name.Dtstart c = property.Start (time_of c.params c.value)
event_property name.Dtend c = property.End (time_of c.params c.value)
event_property name.Duration c = property.Duration (duration_in (lasting_of c.value))
event_property name.Rrule c = property.Rule (rule_in (rule_of c.value))
event_property name.RecurrenceId c = property.Recurrence (time_of c.params c.value)
event_property name.Sequence c = property.Sequence (ok_or_zero (integer_of c.value))
event_property name.Rdate c = property.Rdates (list_of listing.Rdate c.params c.value)
event_property name.Exdate c = property.Exdates (list_of listing.Exdate c.params c.value)
event_property (name.Text text) c = property.Text text (text_read text c.value)
event_property name.Status c = property.Cancelled (is_cancelled c.value)
event_property _ c = property.Other

-- the first of several counts
abbrev pub with_property : Property → EventFields → EventFields
with_property (property.Uid uid) had = record had { uid = option_or had.uid (Some uid) }
with_property (property.Start start) had = record had { start = option_or had.start (Some start) }
with_property (property.End end) had = record had { end = option_or had.end (Some end) }
with_property (property.Duration duration) had = record had { duration = option_or had.duration (Some duration) }
with_property (property.Rule rule) had = record had { rule = option_or had.rule (Some rule) }
with_property (property.Recurrence time) had = record had { recurrence = option_or had.recurrence (Some time) }
with_property (property.Sequence number) had = record had { sequence = option_or had.sequence (Some number) }
with_property (property.Rdates list) had = record had { rdates = had.rdates ++ list.values }
with_property (property.Exdates list) had = record had { exdates = had.exdates ++ list.values }
with_property (property.Text n text) had = record had { texts = with_text n (option_or (text_at n had.texts) (Some text)) had.texts }
with_property (property.Cancelled cancelled) had = record had { cancelled = option_or had.cancelled (Some cancelled) }
with_property property.Other had = had

abbrev pub property_zone : ℕ → Property → Option ZoneName
property_zone k (property.Start time) = time_zone k time
property_zone k (property.End time) = time_zone k time
property_zone k (property.Recurrence time) = time_zone k time
property_zone k (property.Rdates list) = list_zone k list
property_zone k (property.Exdates list) = list_zone k list
property_zone k _ = None

abbrev pub event_note : Name → Parts → EventFields → EventFields
event_note n c had = with_property (event_property n c) had

abbrev pub event_zone : ℕ → Name → Parts → Option ZoneName
event_zone k n c = property_zone k (event_property n c)

-- WHAT IS COLLECTED with a line more of an observance, and of a time zone.
abbrev pub observance_note : Name → Parts → ObservanceBuilder → ObservanceBuilder
observance_note name.Dtstart c had = record had { start = option_or had.start (Some (onset_in (stamp_of false c.value))) }
observance_note name.OffsetFrom c had = record had { from = option_or had.from (Some (offset_in (offset_of c.value))) }
observance_note name.OffsetTo c had = record had { to = option_or had.to (Some (offset_in (offset_of c.value))) }
observance_note name.Rrule c had = record had { rule = option_or had.rule (Some (daily_in (rule_of c.value))) }
observance_note name.Rdate c had = record had { rdates = had.rdates ++ locals_of c.value }
observance_note _ c had = had

abbrev pub zone_note : Name → Parts → ZoneBuilder → ZoneBuilder
zone_note name.Tzid c had = record had { name = option_or had.name (Some (text_of c.value)) }
zone_note _ c had = had

-- of any component
abbrev pub builder_note : Name → Parts → Builder → Builder
builder_note n c (builder.Event had) = builder.Event (event_note n c had)
builder_note n c (builder.Zone had) = builder.Zone (zone_note n c had)
builder_note n c (builder.Observance had) = builder.Observance (observance_note n c had)
builder_note n c other = other

abbrev pub builder_zone : ℕ → Name → Parts → Builder → Option ZoneName
builder_zone k n c (builder.Event had) = event_zone k n c
builder_zone k n c _ = None

-- WHAT STANDS BESIDE A LINE, as a component has it that is being built.
abbrev pub event_has : EventFields → Name → Bool
event_has had name.Uid = is_some had.uid
event_has had name.Dtstart = is_some had.start
event_has had name.Dtend = is_some had.end
event_has had name.Duration = is_some had.duration
event_has had name.Rrule = is_some had.rule
event_has had name.RecurrenceId = is_some had.recurrence
event_has had name.Sequence = is_some had.sequence
event_has had _ = false

abbrev pub observance_has : ObservanceBuilder → Name → Bool
observance_has had name.Dtstart = is_some had.start
observance_has had name.OffsetFrom = is_some had.from
observance_has had name.OffsetTo = is_some had.to
observance_has had name.Rrule = is_some had.rule
observance_has had _ = false

abbrev pub zone_has : ZoneBuilder → Name → Bool
zone_has had name.Tzid = is_some had.name
zone_has had _ = false

abbrev pub nothing_beside : Beside
nothing_beside = record { has = λ n. false; uid = None; start = None; end = None; observed = false }

abbrev pub beside_in : Builder → Beside
beside_in (builder.Event had) = record { has = event_has had; uid = had.uid; start = had.start; end = had.end; observed = false }
beside_in (builder.Zone had) = record nothing_beside { has = zone_has had; observed = not (length had.observances == 0) }
beside_in (builder.Observance had) = record nothing_beside { has = observance_has had }
beside_in _ = nothing_beside

-- where its lines stand
abbrev pub context_at : Builder → Context
context_at builder.Calendar = context.Calendar
context_at (builder.Event had) = context.Event
context_at (builder.Zone had) = context.Zone
context_at (builder.Observance had) = context.Observance
context_at builder.Elsewhere = context.Elsewhere

-- THE LEAST FAULT ON A LINE, of the table: on one that stands there, where so many components are open, and the value names the innermost or not.
unfoldable pub least_fault : Context → Beside → Name → Parts → ℕ → Bool → Option FaultKind
least_fault q beside n c depth closes =
    find (λ kind. faulty kind beside (record { context = q; name = n; params = c.params; value = c.value; depth = depth; closes = closes })) kinds

abbrev pub outside_fault : Name → Parts → Option FaultKind
outside_fault n c = least_fault context.Outside nothing_beside n c 0 false

abbrev pub begin_fault : Parts → ℕ → Builder → Option FaultKind
begin_fault c depth b = least_fault (context_at b) (beside_in b) name.Begin c depth false

-- on an END, whatever its value is
abbrev pub end_fault : Bool → Builder → Option FaultKind
end_fault closes b = least_fault (context_at b) (beside_in b) name.End (record { name = []; params = []; value = [] }) 1 closes

-- on a line that begins and ends no component
abbrev pub line_fault : Name → Parts → Builder → Option FaultKind
line_fault n c b = least_fault (context_at b) (beside_in b) n c 1 false

abbrev pub is_mark : Name → Bool
is_mark name.Begin = true
is_mark name.End = true
is_mark _ = false

-- WHAT A COMPONENT IS at its END, and its check in the second round.
abbrev pub line_result : ClosedComponent → Option DeferredCheck → LineResult
line_result end check = record { ended = end; check = check }

abbrev pub ended_as : ℕ → Builder → ClosedComponent
ended_as k (builder.Event had) = ended.Event (record { calendar = k; fields = had })
ended_as k (builder.Zone had) = ended.Zone (zone_ended k had)
ended_as k _ = ended.Nothing

-- what becomes of the component in which it ends: a time zone keeps an observance
abbrev pub joined : Builder → Builder → Builder
joined (builder.Zone outer) (builder.Observance had) = builder.Zone (record outer { observances = outer.observances ++ observance_ended had ∷ [] })
joined outer _ = outer

abbrev pub end_check : ℕ → Builder → Option DeferredCheck
end_check k (builder.Event had) = ends_in k had.start had.end
end_check k _ = None

-- whether that names the component in which a line stands
abbrev pub is_of : List ℕ → Frame → Bool
is_of value f = bytes_eq (map upper value) (component_name f.component)

-- WHAT A LINE MAKES of the components that are open, the innermost first, above what is below them all.
-- the calendar of a component that begins on that line: the outermost component, or that itself
abbrev pub calendar_in : ℕ → List Frame → ℕ
calendar_in number (f ∷ g ∷ gs) = f.calendar
calendar_in number _ = number

-- where the line stands
abbrev pub context_on : List Frame → Context
context_on (f ∷ g ∷ gs) = context_at f.builder
context_on _ = context.Outside

abbrev pub opened : ℕ → Component → List Frame → List Frame
opened number c [] = []
opened number c (f ∷ fs) =
    record {
      component = c;
      calendar = calendar_in number (f ∷ fs);
      builder = builder_at [] [] (context_in (context_on (f ∷ fs)) c);
    } ∷ f ∷ fs

abbrev pub closed : List Frame → List Frame
closed (f ∷ g ∷ gs) = record g { builder = joined g.builder f.builder } ∷ gs
closed frames = frames

abbrev pub noted : Name → Parts → List Frame → List Frame
noted n c [] = []
noted n c (f ∷ fs) = record f { builder = builder_note n c f.builder } ∷ fs

abbrev pub behind : ℕ → Name → Parts → List Frame → List Frame
behind number name.Begin c frames = opened number (component_of (map upper c.value)) frames
behind number name.End c frames = closed frames
behind number n c frames = noted n c frames

-- the fault on a line, by the innermost component and by how many are open
abbrev pub fault_in : Name → Parts → Frame → ℕ → Option FaultKind
fault_in n c f zero = outside_fault n c
fault_in name.Begin c f (suc depth) = begin_fault c (suc depth) f.builder
fault_in name.End c f (suc depth) = end_fault (is_of c.value f) f.builder
fault_in n c f (suc depth) = line_fault n c f.builder

abbrev pub fault_on : Name → Parts → List Frame → Option FaultKind
fault_on n c [] = None
fault_on n c (f ∷ fs) = fault_in n c f (length fs)

-- what ends on the line, and its check in the second round
abbrev pub end_in : Name → Frame → ClosedComponent
end_in name.End f = ended_as f.calendar f.builder
end_in _ f = ended.Nothing

abbrev pub check_in : Name → Parts → Frame → Option DeferredCheck
check_in name.Begin c f = None
check_in name.End c f = end_check f.calendar f.builder
check_in n c f = zone_check (builder_zone f.calendar n c f.builder)

abbrev pub passing : Name → Parts → List Frame → LineResult
passing n c [] = line_result ended.Nothing None
passing n c (f ∷ fs) = line_result (end_in n f) (check_in n c f)
