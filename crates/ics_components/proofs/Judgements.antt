-- What the table of faults says of a line by its name, as the reader judges it.
use Rattle.std.proofs.Common.{append-nil, ◌≡◌, Bool, true, false, ◌&&◌, ◌||◌, not, ◌==◌, length, refl, arith, cond, Option, Some, None, is_some}
use Rattle.std.proofs.Common.{sym, ap, ◌∙◌}
use Rattle.std.specs.Prelude.{codes, ℕ, List, [], ◌∷◌, Result, Ok, Err, IfOk}
use Rattle.std.specs.Option.{option_or}
use Rattle.ics_text.specs.ContentLines.{Parts, param_of}
use Rattle.ics_components.specs.declared.builder.Builder.{Builder}
use Rattle.ics_components.specs.declared.builder.Builder.TheVariants as builder
use Rattle.ics_components.specs.declared.builder.ZoneBuilder.{ZoneBuilder}
use Rattle.ics_components.specs.declared.event_fields.EventFields.{EventFields}
use Rattle.ics_components.specs.declared.observance_builder.ObservanceBuilder.{ObservanceBuilder}
use Rattle.ics_components.specs.declared.fault.FaultKind.{FaultKind}
use Rattle.ics_components.specs.declared.fault.FaultKind.TheVariants as kind
use Rattle.ics_components.specs.declared.frame.Frame.{Frame}
use Rattle.ics_components.specs.declared.name.Name.{Name}
use Rattle.ics_components.specs.declared.name.Name.TheVariants as name
use Rattle.ics_components.specs.declared.parsed_file.ClosedComponent.TheVariants as ended
use Rattle.ics_components.specs.declared.parsed_file.LineResult.{LineResult}
use Rattle.ics_components.specs.declared.refused.Refused.{Refused}
use Rattle.ics_components.specs.declared.refused.Refused.TheVariants.{Memory, Fault}
use Rattle.ics_components.specs.Faults.{event_reading, observance_reading}
use Rattle.ics_components.specs.Lines.{misread, unfit, event_has, observance_has, least_fault, outside_fault, end_fault, line_fault, is_mark}
use Rattle.ics_components.specs.Lines.{Keeps, Leaves, builder_note, builder_zone, fault_on, behind, passing, line_result}
use Rattle.ics_components.specs.ParsedFiles.{and_line}
use Rattle.ics_components.specs.ParsedFileSeen.{ParsedFileSeen}
use Rattle.ics_components.specs.Pass.{is_lowest}
use Rattle.ics_components.specs.SecondRound.{zone_check}
use Rattle.ics_components.specs.Values.{is_filled, ends_badly}

-- what stands behind several kinds stands behind the last of them
first-cond : (t : Bool) (o p m : Option FaultKind) → option_or (cond t o p) m ≡ cond t (option_or o m) (option_or p m)
first-cond t o p m = grind arith

-- one of two tests
or-cond : (a b : Bool) (x y : Option FaultKind) → cond (a || b) x y ≡ cond a x (cond b x y)
or-cond a b x y = grind arith

-- IN AN EVENT: the fault of the value, then a property that stands once and stands before, then what an event may not have.
abbrev pub refused_there : Name → Parts → Option FaultKind
refused_there name.RecurrenceId v = cond (is_some (param_of (codes "RANGE") v.params)) (Some kind.ThisAndFuture) None
refused_there name.Exrule v = Some kind.Exrule
refused_there _ v = None

pub event_line : (n : Name) (v : Parts) (had : EventFields) → is_mark n ≡ false →
    line_fault n v (builder.Event had)
    ≡ option_or (misread (event_reading n v.params v.value)) (option_or (cond (event_has had n) (Some kind.Repeated) None) (refused_there n v))
unfolding least_fault
event_line name.Begin v had m = cc
event_line name.End v had m = cc
event_line _ v had m = simp first-cond

pub event_end : (had : EventFields) →
    end_fault true (builder.Event had)
    ≡ cond (not (is_filled had.uid)) (Some kind.MissingUid) (cond (not (is_some had.start)) (Some kind.MissingStart)
    (cond ((is_some had.end && is_some had.duration) || ends_badly had.start had.end) (Some kind.BadEnd) None))
unfolding least_fault
event_end had = refl

-- IN AN OBSERVANCE: the fault of the value, then a property that stands once and stands before.
abbrev pub again_there : Name → FaultKind
again_there name.Rrule = kind.ZoneRule
again_there _ = kind.ObservanceField

pub observance_line : (n : Name) (v : Parts) (had : ObservanceBuilder) → is_mark n ≡ false →
    line_fault n v (builder.Observance had)
    ≡ option_or (unfit (observance_reading n v.value)) (cond (observance_has had n) (Some (again_there n)) None)
unfolding least_fault
observance_line name.Begin v had m = cc
observance_line name.End v had m = cc
observance_line _ v had m = simp (first-cond, or-cond)

-- IN A TIME ZONE, at its END.
pub zone_end : (had : ZoneBuilder) →
    end_fault true (builder.Zone had)
    ≡ cond (length had.observances == 0) (Some kind.NoObservance) (cond (is_some had.name) None (Some kind.ObservanceField))
unfolding least_fault
zone_end had = grind arith

-- AN END that does not match.
pub unmatched_end : (b : Builder) → end_fault false b ≡ Some kind.BadNesting
unfolding least_fault
unmatched_end builder.Calendar = refl
unmatched_end _ = refl

-- A LINE THAT IS NOT READ has no fault in a component, and nothing is kept of it.
other_in : (v : Parts) (b : Builder) →
    (line_fault name.Other v b ≡ None) × (builder_note name.Other v b ≡ b) × ((k : ℕ) → builder_zone k name.Other v b ≡ None)
unfolding least_fault
other_in v builder.Calendar = (refl, refl, λ k. refl)
other_in v _ = (refl, refl, λ k. refl)

abbrev IsPassed : ℕ → Parts → List Frame → Name → Type 0
IsPassed number v frames n =
    (fault_on n v frames ≡ None) × (frames ≡ behind number n v frames) × ((had : ParsedFileSeen) → had ≡ and_line number (passing n v frames) had)

pub other_line : (number : ℕ) (v : Parts) (frames : List Frame) → is_lowest frames ≡ false → IsPassed number v frames name.Other
other_line number v [] i = cc
other_line number v (f ∷ []) i = cc
other_line number v (f ∷ g ∷ gs) i =
    let other = other_in v f.builder in (other.0, rw (other.1) refl, λ had. rw (other.2 f.calendar) (simp append-nil))

-- OUTSIDE ALL COMPONENTS only a calendar begins.
pub outside_line : (n : Name) (v : Parts) → is_mark n ≡ false → outside_fault n v ≡ Some kind.NotCalendar
unfolding least_fault
outside_line name.Begin v m = cc
outside_line name.End v m = cc
outside_line _ v m = refl

-- where no component is open
pub outside-there : (n : Name) (v : Parts) (f : Frame) (fs : List Frame) → is_mark n ≡ false → is_lowest (f ∷ fs) ≡ true →
    fault_on n v (f ∷ fs) ≡ Some kind.NotCalendar
outside-there n v f [] m i = outside_line n v m
outside-there n v f (g ∷ gs) m i = cc

pub outside_end : (v : Parts) → outside_fault name.End v ≡ Some kind.NotCalendar
unfolding least_fault
outside_end v = refl

-- A LINE THAT BEGINS AND ENDS NO COMPONENT is judged and noted by the innermost.
pub unmarked : (n : Name) → (n ≡ name.Begin → ⊥) → (n ≡ name.End → ⊥) → is_mark n ≡ false
unmarked name.Begin begin end = absurd (begin refl)
unmarked name.End begin end = absurd (end refl)
unmarked _ begin end = refl

abbrev Inside : ℕ → Name → Parts → Frame → List Frame → Type 0
Inside number n v f fs =
    (fault_on n v (f ∷ fs) ≡ line_fault n v f.builder) × (behind number n v (f ∷ fs) ≡ record f { builder = builder_note n v f.builder } ∷ fs)
    × (passing n v (f ∷ fs) ≡ line_result ended.Nothing (zone_check (builder_zone f.calendar n v f.builder)))

inside-named : (number : ℕ) (n : Name) (v : Parts) (f g : Frame) (gs : List Frame) → is_mark n ≡ false → Inside number n v f (g ∷ gs)
inside-named number name.Begin v f g gs m = cc
inside-named number name.End v f g gs m = cc
inside-named number _ v f g gs m = (refl, refl, refl)

inside-line : (number : ℕ) (n : Name) (v : Parts) (f : Frame) (fs : List Frame) → is_mark n ≡ false → is_lowest (f ∷ fs) ≡ false → Inside number n v f fs
inside-line number n v f [] m i = cc
inside-line number n v f (g ∷ gs) m i = inside-named number n v f g gs m

pub inside-keeps : (result : Result Unit Refused) (number : ℕ) (n : Name) (v : Parts) (f next : Frame) (fs : List Frame) → is_mark n ≡ false →
    Keeps result next (line_fault n v f.builder) (record f { builder = builder_note n v f.builder }) →
    is_lowest (f ∷ fs) ≡ false → Keeps result (next ∷ fs) (fault_on n v (f ∷ fs)) (behind number n v (f ∷ fs))
inside-keeps (Ok taken) number n v f next fs m keeps i =
    let line = inside-line number n v f fs m i in (line.0 ∙ keeps.0, ap (λ (frame : Frame). frame ∷ fs) keeps.1 ∙ sym line.1)
inside-keeps (Err Memory) number n v f next fs m keeps i = tt
inside-keeps (Err (Fault kind)) number n v f next fs m keeps i = let line = inside-line number n v f fs m i in line.0 ∙ keeps

pub inside-gathers : (result : Result Unit Refused) (number : ℕ) (n : Name) (v : Parts) (f : Frame) (fs : List Frame) (had now : ParsedFileSeen) →
    is_mark n ≡ false →
    IfOk result (λ _. now ≡ and_line number (line_result ended.Nothing (zone_check (builder_zone f.calendar n v f.builder))) had) →
    is_lowest (f ∷ fs) ≡ false → IfOk result (λ _. now ≡ and_line number (passing n v (f ∷ fs)) had)
inside-gathers (Ok taken) number n v f fs had now m gathers i =
    let line = inside-line number n v f fs m i in gathers ∙ sym (ap (λ (passed : LineResult). and_line number passed had) line.2)
inside-gathers (Err refused) number n v f fs had now m gathers i = tt

-- A LINE THAT HAS A FAULT leaves what is gathered.
pub leaves_same : {Y : Type 0} (result : Result Unit Refused) (had : Y) → Leaves result had had
leaves_same (Ok taken) had = tt
leaves_same (Err Memory) had = tt
leaves_same (Err (Fault kind)) had = refl
