-- The pass that does not keep some texts finds the same faults, and gathers what is kept of what the pass gathers.
use Rattle.std.proofs.Common.{◌≡◌, ℕ, zero, suc, ◌+◌, Bool, true, false, List, [], ◌∷◌, ◌++◌, refl, sym, ap, ◌∙◌, cond, Option, Some, None, Result, Ok, Err}
use Rattle.std.proofs.Common.{map, length, subst}
use Rattle.std.specs.List.{Contains}
use Rattle.std.specs.Prelude.{IfOk}
use Rattle.std.proofs.lemmas.List.{length-map, map-append}
use Rattle.std.proofs.lemmas.List.Elements.{All-map}
use Rattle.ics_text.specs.Bytes.{upper}
use Rattle.ics_text.specs.ContentLines.{Parts, content_of}
use Rattle.ics_text.specs.Unfolded.{Line, begins_with_fold, unfolded}
use Rattle.ics_values.specs.KeptTexts.{KeptTexts}
use Rattle.ics_values.specs.TextNames.{text_at, texts_of, with_text}
use Rattle.ics_values.specs.declared.text_name.TextName.{TextName}
use Rattle.ics_values.specs.declared.text_name.TextName.TheVariants as text
use Rattle.ics_components.specs.declared.builder.Builder.{Builder}
use Rattle.ics_components.specs.declared.builder.Builder.TheVariants as builder
use Rattle.ics_components.specs.declared.builder.ZoneBuilder.{ZoneBuilder}
use Rattle.ics_components.specs.declared.component.Component.{Component}
use Rattle.ics_components.specs.declared.component.Context.{Context}
use Rattle.ics_components.specs.declared.component.Context.TheVariants as context
use Rattle.ics_components.specs.declared.deferred_check.DeferredCheck.{DeferredCheck}
use Rattle.ics_components.specs.declared.event_fields.EventFields.{EventFields}
use Rattle.ics_components.specs.declared.fault.Fault.{Fault}
use Rattle.ics_components.specs.declared.fault.FaultKind.{FaultKind}
use Rattle.ics_components.specs.declared.fault.FaultKind.TheVariants.{BadNesting}
use Rattle.ics_components.specs.declared.frame.Frame.{Frame}
use Rattle.ics_components.specs.declared.name.Name.{Name}
use Rattle.ics_components.specs.declared.name.Name.TheVariants as name
use Rattle.ics_components.specs.declared.observance_builder.ObservanceBuilder.{ObservanceBuilder}
use Rattle.ics_components.specs.declared.parsed_file.CalendarEvent.{CalendarEvent}
use Rattle.ics_components.specs.declared.parsed_file.ClosedComponent.{ClosedComponent}
use Rattle.ics_components.specs.declared.parsed_file.ClosedComponent.TheVariants as ended
use Rattle.ics_components.specs.declared.parsed_file.LineCheck.{LineCheck}
use Rattle.ics_components.specs.Builders.{builder_at, collected_of}
use Rattle.ics_components.specs.Components.{component_of, context_in}
use Rattle.ics_components.specs.Known.{kept_name}
use Rattle.ics_components.specs.KeptPass.{kept_pass, on_kept}
use Rattle.ics_components.specs.Kept.{SaysKept, if_kept, kept_ended, kept_fields, kept_parsed}
use Rattle.ics_components.specs.Lines.{least_fault, line_fault, outside_fault, fault_in, fault_on, beside_in, context_at, event_has, is_of}
use Rattle.ics_components.specs.Lines.{builder_note, builder_zone, event_note, zone_note, observance_note, noted, joined, closed, opened, behind}
use Rattle.ics_components.specs.Lines.{calendar_in, context_on, ended_as, end_in, end_check, check_in, line_result, passing}
use Rattle.ics_components.specs.ParsedFileSeen.{ParsedFileSeen}
use Rattle.ics_components.specs.ParsedFiles.{IsSoundParsed, and_line, checks_of, nothing_parsed}
use Rattle.ics_components.specs.Pass.{at_end, bottom, is_lowest, on_content, on_line, parsed_of, pass, unless}
use Rattle.ics_components.specs.PlacedLines.{named}
use Rattle.ics_components.specs.SecondRound.{zone_check}
use Rattle.ics_components.specs.Sound.{IsSoundEvent}
use Rattle.ics_components.proofs.Judgements.{outside_line}
use Rattle.ics_components.proofs.PassLemmas.{lists}
use Rattle.ics_components.proofs.ReadTo.{read-said}
use Rattle.ics_components.proofs.SoundPass.{sound-pass}

-- A TEXT has no fault, and no zone.
text-line : (text : TextName) (v : Parts) (b : Builder) → line_fault name.Other v b ≡ line_fault (name.Text text) v b
unfolding least_fault
text-line text v builder.Calendar = refl
text-line text v _ = refl

-- one name that is not read is judged as that of a text
fault-of : (n : Name) (v : Parts) (f : Frame) (depth : ℕ) → outside_fault name.Other v ≡ outside_fault n v
    → fault_in name.Other v f 1 ≡ fault_in n v f 1 → ((d : ℕ) → fault_in n v f (suc d) ≡ fault_in n v f 1)
    → fault_in name.Other v f depth ≡ fault_in n v f depth
fault-of n v f zero out inner same = out
fault-of n v f (suc d) out inner same = inner ∙ sym (same d)

-- a frame by its parts
abbrev frame_at : Component → ℕ → Builder → Frame
frame_at c calendar b = record { component = c; calendar = calendar; builder = b }

module _ (keep : KeptTexts) where
  -- what two names have, where one of them is chosen
  by_choice : {X : Type 0} (f : Name → X) (k : Bool) (n : Name) → f name.Other ≡ f n → f (cond k n name.Other) ≡ f n
  by_choice f true n e = refl
  by_choice f false n e = e

  -- what a name that is not read has as each text has it, a name has by which a property is read
  by_name : {X : Type 0} (f : Name → X) → ((text : TextName) → f name.Other ≡ f (name.Text text)) → (n : Name) → f (kept_name keep n) ≡ f n
  by_name f texts (name.Text text) = by_choice f (text_at text keep) (name.Text text) (texts text)
  by_name f texts _ = refl

  -- THE COMPONENTS that are open, without the texts that are not kept.
  abbrev pub kept_builder : Builder → Builder
  kept_builder (builder.Event had) = builder.Event (kept_fields keep had)
  kept_builder other = other

  abbrev pub kept_frame : Frame → Frame
  kept_frame f = frame_at f.component f.calendar (kept_builder f.builder)

  abbrev pub kept_frames : List Frame → List Frame
  kept_frames frames = map kept_frame frames

  context-kept : (b : Builder) → context_at (kept_builder b) ≡ context_at b
  context-kept (builder.Event had) = refl
  context-kept _ = refl

  has-kept : (had : EventFields) (n : Name) → event_has (kept_fields keep had) n ≡ event_has had n
  has-kept had name.Uid = refl
  has-kept had _ = refl

  beside-kept : (b : Builder) → beside_in (kept_builder b) ≡ beside_in b
  beside-kept (builder.Event had) = λ i. record { has = λ n. has-kept had n i; uid = had.uid; start = had.start; end = had.end; observed = false }
  beside-kept _ = refl

  -- THE FAULT on a line.
  fault-named : (n : Name) (v : Parts) (f : Frame) (depth : ℕ) → fault_in n v (kept_frame f) depth ≡ fault_in n v f depth
  fault-named n v f zero = refl
  fault-named name.Begin v f (suc d) = λ i. least_fault (context-kept f.builder i) (beside-kept f.builder i) name.Begin v (suc d) false
  fault-named name.End v f (suc d) =
      λ i. least_fault (context-kept f.builder i) (beside-kept f.builder i) name.End (record { name = []; params = []; value = [] }) 1 (is_of v.value f)
  fault-named n v f (suc d) = λ i. least_fault (context-kept f.builder i) (beside-kept f.builder i) n v 1 false

  fault-read : (n : Name) (v : Parts) (f : Frame) (depth : ℕ) → fault_in (kept_name keep n) v f depth ≡ fault_in n v f depth
  fault-read n v f depth =
      by_name (λ n. fault_in n v f depth) (λ text.
      fault-of (name.Text text) v f depth (outside_line name.Other v refl ∙ sym (outside_line (name.Text text) v refl)) (text-line text v f.builder)
      (λ d. refl)) n

  fault-kept : (n : Name) (v : Parts) (frames : List Frame) → fault_on (kept_name keep n) v (kept_frames frames) ≡ fault_on n v frames
  fault-kept n v [] = refl
  fault-kept n v (f ∷ fs) =
      fault-read n v (kept_frame f) (length (kept_frames fs)) ∙ ap (fault_in n v (kept_frame f)) (length-map fs kept_frame) ∙ fault-named n v f (length fs)

  -- WHAT A LINE MAKES of the components. What begins has no texts.
  none-kept : (k : Bool) → if_kept k None ≡ None
  none-kept true = refl
  none-kept false = refl

  fresh-kept : (q : Context) → kept_builder (builder_at [] [] q) ≡ builder_at [] [] q
  fresh-kept context.Event = λ i. builder.Event (record (collected_of []) { texts = texts_of (λ text. none-kept (text_at text keep) i) })
  fresh-kept _ = refl

  context-on : (frames : List Frame) → context_on (kept_frames frames) ≡ context_on frames
  context-on [] = refl
  context-on (f ∷ []) = refl
  context-on (f ∷ g ∷ gs) = context-kept f.builder

  calendar-in : (number : ℕ) (frames : List Frame) → calendar_in number (kept_frames frames) ≡ calendar_in number frames
  calendar-in number [] = refl
  calendar-in number (f ∷ []) = refl
  calendar-in number (f ∷ g ∷ gs) = refl

  opened-kept : (number : ℕ) (c : Component) (frames : List Frame) → opened number c (kept_frames frames) ≡ kept_frames (opened number c frames)
  opened-kept number c [] = refl
  opened-kept number c (f ∷ fs) =
      let q : Context = context_in (context_on (f ∷ fs)) c in
      let begun : builder_at [] [] (context_in (context_on (kept_frames (f ∷ fs))) c) ≡ kept_builder (builder_at [] [] q) =
      ap (λ q. builder_at [] [] (context_in q c)) (context-on (f ∷ fs)) ∙ sym (fresh-kept q) in
      λ i. frame_at c (calendar-in number (f ∷ fs) i) (begun i) ∷ kept_frames (f ∷ fs)

  joined-kept : (outer inner : Builder) → joined (kept_builder outer) (kept_builder inner) ≡ kept_builder (joined outer inner)
  joined-kept (builder.Zone outer) (builder.Event had) = refl
  joined-kept (builder.Zone outer) _ = refl
  joined-kept (builder.Event outer) (builder.Event had) = refl
  joined-kept (builder.Event outer) _ = refl
  joined-kept _ (builder.Event had) = refl
  joined-kept _ _ = refl

  closed-kept : (frames : List Frame) → closed (kept_frames frames) ≡ kept_frames (closed frames)
  closed-kept [] = refl
  closed-kept (f ∷ []) = refl
  closed-kept (f ∷ g ∷ gs) = λ i. frame_at g.component g.calendar (joined-kept g.builder f.builder i) ∷ kept_frames gs

  -- of several texts the first is kept, or none
  note-text : (text : TextName) (k : Bool) (v : Parts) (had : EventFields) →
      event_note (cond k (name.Text text) name.Other) v (kept_fields (with_text text k keep) had)
      ≡ kept_fields (with_text text k keep) (event_note (name.Text text) v had)
  note-text text.Summary true v had = refl
  note-text text.Summary false v had = refl
  note-text _ true v had = refl
  note-text _ false v had = refl

  note-kept : (n : Name) (v : Parts) (had : EventFields) → event_note (kept_name keep n) v (kept_fields keep had) ≡ kept_fields keep (event_note n v had)
  note-kept (name.Text text.Summary) v had = note-text text.Summary keep.title v had
  note-kept (name.Text text) v had = note-text text (text_at text keep) v had
  note-kept _ v had = refl

  builder-kept : (n : Name) (v : Parts) (b : Builder) → builder_note (kept_name keep n) v (kept_builder b) ≡ kept_builder (builder_note n v b)
  builder-kept n v (builder.Event had) = ap (λ (fields : EventFields). builder.Event fields) (note-kept n v had)
  builder-kept n v (builder.Zone had) =
      ap (λ (zone : ZoneBuilder). builder.Zone zone) (by_name (λ n. zone_note n v had) (λ text. refl) n)
  builder-kept n v (builder.Observance had) =
      ap (λ (observance : ObservanceBuilder). builder.Observance observance) (by_name (λ n. observance_note n v had) (λ text. refl) n)
  builder-kept n v _ = refl

  noted-kept : (n : Name) (v : Parts) (frames : List Frame) → noted (kept_name keep n) v (kept_frames frames) ≡ kept_frames (noted n v frames)
  noted-kept n v [] = refl
  noted-kept n v (f ∷ fs) = λ i. frame_at f.component f.calendar (builder-kept n v f.builder i) ∷ kept_frames fs

  -- a text is noted, whatever it is read by
  noted-as : (number : ℕ) (k : Bool) (n : Name) (v : Parts) (frames : List Frame) → behind number n v frames ≡ noted n v frames →
      behind number (cond k n name.Other) v frames ≡ noted (cond k n name.Other) v frames
  noted-as number true n v frames e = e
  noted-as number false n v frames e = refl

  behind-kept : (number : ℕ) (n : Name) (v : Parts) (frames : List Frame) →
      behind number (kept_name keep n) v (kept_frames frames) ≡ kept_frames (behind number n v frames)
  behind-kept number name.Begin v frames = opened-kept number (component_of (map upper v.value)) frames
  behind-kept number name.End v frames = closed-kept frames
  behind-kept number (name.Text text) v frames =
      noted-as number (text_at text keep) (name.Text text) v (kept_frames frames) refl ∙ noted-kept (name.Text text) v frames
  behind-kept number n v frames = noted-kept n v frames

  -- WHAT ENDS on a line, and its check.
  abbrev kept_closed : ClosedComponent → ClosedComponent
  kept_closed (ended.Event event) = ended.Event (kept_ended keep event)
  kept_closed other = other

  ended-kept : (calendar : ℕ) (b : Builder) → ended_as calendar (kept_builder b) ≡ kept_closed (ended_as calendar b)
  ended-kept calendar (builder.Event had) = refl
  ended-kept calendar _ = refl

  end-named : (n : Name) (f : Frame) → end_in n (kept_frame f) ≡ kept_closed (end_in n f)
  end-named name.End f = ended-kept f.calendar f.builder
  end-named _ f = refl

  end-kept : (n : Name) (f : Frame) → end_in (kept_name keep n) (kept_frame f) ≡ kept_closed (end_in n f)
  end-kept n f = by_name (λ n. end_in n (kept_frame f)) (λ text. refl) n ∙ end-named n f

  zone-kept : (calendar : ℕ) (n : Name) (v : Parts) (b : Builder) → builder_zone calendar n v (kept_builder b) ≡ builder_zone calendar n v b
  zone-kept calendar n v (builder.Event had) = refl
  zone-kept calendar n v _ = refl

  ends-kept : (calendar : ℕ) (b : Builder) → end_check calendar (kept_builder b) ≡ end_check calendar b
  ends-kept calendar (builder.Event had) = refl
  ends-kept calendar _ = refl

  check-named : (n : Name) (v : Parts) (f : Frame) → check_in n v (kept_frame f) ≡ check_in n v f
  check-named name.Begin v f = refl
  check-named name.End v f = ends-kept f.calendar f.builder
  check-named n v f = ap zone_check (zone-kept f.calendar n v f.builder)

  text-zone : (calendar : ℕ) (n : Name) (v : Parts) (b : Builder)
      → ((had : EventFields) → builder_zone calendar name.Other v (builder.Event had) ≡ builder_zone calendar n v (builder.Event had)) →
      builder_zone calendar name.Other v b ≡ builder_zone calendar n v b
  text-zone calendar n v (builder.Event had) e = e had
  text-zone calendar n v _ e = refl

  check-kept : (n : Name) (v : Parts) (f : Frame) → check_in (kept_name keep n) v (kept_frame f) ≡ check_in n v f
  check-kept n v f =
      let b : Builder = kept_builder f.builder in
      by_name (λ n. check_in n v (kept_frame f)) (λ text. ap zone_check (text-zone f.calendar (name.Text text) v b (λ had. refl))) n ∙ check-named n v f

  -- WHAT IS GATHERED with a line more.
  gathered-kept : (number : ℕ) (e : ClosedComponent) (check : Option DeferredCheck) (had : ParsedFileSeen) →
      and_line number (line_result (kept_closed e) check) (kept_parsed keep had) ≡ kept_parsed keep (and_line number (line_result e check) had)
  gathered-kept number (ended.Event event) check had =
      λ i. lists (had.zones ++ []) (sym (map-append (kept_ended keep) had.events (event ∷ [])) i) (had.checks ++ checks_of number check)
  gathered-kept number (ended.Zone zone) check had =
      λ i. lists (had.zones ++ zone ∷ []) (sym (map-append (kept_ended keep) had.events []) i) (had.checks ++ checks_of number check)
  gathered-kept number ended.Nothing check had =
      λ i. lists (had.zones ++ []) (sym (map-append (kept_ended keep) had.events []) i) (had.checks ++ checks_of number check)

  passing-kept : (number : ℕ) (n : Name) (v : Parts) (frames : List Frame) (had : ParsedFileSeen) →
      and_line number (passing (kept_name keep n) v (kept_frames frames)) (kept_parsed keep had) ≡ kept_parsed keep (and_line number (passing n v frames) had)
  passing-kept number n v [] had = gathered-kept number ended.Nothing None had
  passing-kept number n v (f ∷ fs) had =
      (λ i. and_line number (line_result (end-kept n f i) (check-kept n v f i)) (kept_parsed keep had))
      ∙ gathered-kept number (end_in n f) (check_in n v f) had

  -- WHERE THE LINES END.
  lowest-kept : (frames : List Frame) → is_lowest (kept_frames frames) ≡ is_lowest frames
  lowest-kept [] = refl
  lowest-kept (f ∷ []) = refl
  lowest-kept (f ∷ g ∷ gs) = refl

  end-at : (frames : List Frame) (last : Option ℕ) → at_end (kept_frames frames) last ≡ at_end frames last
  end-at frames None = refl
  end-at frames (Some last) = ap (λ t. cond t None (Some (record { line = last + 1; kind = BadNesting }))) (lowest-kept frames)

  -- THE PASS.
  abbrev pub kept_result : Result ParsedFileSeen Fault → Result ParsedFileSeen Fault
  kept_result (Ok had) = Ok (kept_parsed keep had)
  kept_result (Err fault) = Err fault

  unless-kept : (o : Option Fault) (had : ParsedFileSeen) → unless o (kept_parsed keep had) ≡ kept_result (unless o had)
  unless-kept None had = refl
  unless-kept (Some fault) had = refl

  on-line : (number : ℕ) (o : Option FaultKind) (a b : Result ParsedFileSeen Fault) → a ≡ kept_result b → on_line number o a ≡ kept_result (on_line number o b)
  on-line number None a b e = e
  on-line number (Some kind) a b e = refl

  abbrev Follows : List Line → Type 0
  Follows lines =
      (frames : List Frame) (last : Option ℕ) (had : ParsedFileSeen) →
      kept_pass keep (kept_frames frames) last (kept_parsed keep had) lines ≡ kept_result (pass frames last had lines)

  step : (number : ℕ) (lines : List Line) → Follows lines → (o : Option Parts) (frames : List Frame) (had : ParsedFileSeen) →
      on_kept keep number o (kept_frames frames) (kept_parsed keep had) (λ frames had. kept_pass keep frames (Some number) had lines)
      ≡ kept_result (on_content number o frames had (λ frames had. pass frames (Some number) had lines))
  step number lines again None frames had = refl
  step number lines again (Some v) frames had =
      (λ i. on_line number (fault-kept (named v) v frames i)
      (kept_pass keep (behind-kept number (named v) v frames i) (Some number) (passing-kept number (named v) v frames had i) lines))
      ∙ on-line number (fault_on (named v) v frames) _ _
      (again (behind number (named v) v frames) (Some number) (and_line number (passing (named v) v frames) had))

  pub pass-kept : (lines : List Line) → Follows lines
  pass-kept [] frames last had = ap (λ o. unless o (kept_parsed keep had)) (end-at frames last) ∙ unless-kept (at_end frames last) had
  pass-kept (line ∷ lines) frames last had = step line.number lines (pass-kept lines) (content_of line.bytes) frames had

  -- WHAT IS GATHERED of a file, or its first fault.
  pub gathered-says : (parsed : ParsedFileSeen) (said : Result ParsedFileSeen Fault) → kept_result said ≡ Ok parsed → SaysKept keep (Ok parsed) said
  gathered-says parsed (Ok whole) e = (whole, refl, cc)
  gathered-says parsed (Err fault) e = cc

  pub refused-says : (fault : Fault) (said : Result ParsedFileSeen Fault) → kept_result said ≡ Err fault → said ≡ Err fault
  refused-says fault (Ok whole) e = cc
  refused-says fault (Err other) e = e

  module _ (file : List ℕ) (plain : begins_with_fold file ≡ true → ⊥) where
    abbrev said : Result ParsedFileSeen Fault
    said = pass (bottom ∷ []) None nothing_parsed (unfolded file)

    abbrev kept : Result ParsedFileSeen Fault
    kept = kept_pass keep (bottom ∷ []) None nothing_parsed (unfolded file)

    follows : kept ≡ kept_result said
    follows = pass-kept (unfolded file) (bottom ∷ []) None nothing_parsed

    pub file-gathered : (parsed : ParsedFileSeen) → kept ≡ Ok parsed → SaysKept keep (Ok parsed) (parsed_of file)
    file-gathered parsed e =
        let says = gathered-says parsed said (sym follows ∙ e) in (says.0, read-said file (Ok says.0) plain says.1, says.2)

    pub file-refused : (fault : Fault) → kept ≡ Err fault → parsed_of file ≡ Err fault
    file-refused fault e = read-said file (Err fault) plain (refused-says fault said (sym follows ∙ e))

  -- and it is sound
  sound-event : (P : DeferredCheck → Type 0) (calendar : ℕ) (had : EventFields) → IsSoundEvent P calendar had → IsSoundEvent P calendar (kept_fields keep had)
  sound-event P calendar had sound = record {
    named = sound.named;
    started = sound.started;
    start = sound.start;
    end = sound.end;
    ends = sound.ends;
    lasting = sound.lasting;
    rdates = sound.rdates;
    exdates = sound.exdates;
    recurrence = sound.recurrence;
    length = sound.length;
  }

  pub sound-kept : (had : ParsedFileSeen) → IsSoundParsed had → IsSoundParsed (kept_parsed keep had)
  sound-kept had sound = record {
    zones = sound.zones;
    events =
        All-map (λ (event : CalendarEvent). IsSoundEvent (Contains (map (λ (w : LineCheck). w.check) had.checks)) event.calendar event.fields)
        (kept_ended keep) had.events (λ i d l. sound-event _ _ _ (sound.events i d l));
    sound = sound.sound;
  }

  pub sound-gathered : (lines : List Line) (parsed : ParsedFileSeen) →
      kept_pass keep (bottom ∷ []) None nothing_parsed lines ≡ Ok parsed → IsSoundParsed parsed
  sound-gathered lines parsed e =
      let said : Result ParsedFileSeen Fault = pass (bottom ∷ []) None nothing_parsed lines in
      let says = gathered-says parsed said (sym (pass-kept lines (bottom ∷ []) None nothing_parsed) ∙ e) in
      rw says.2 (sound-kept says.0 (subst (λ g. IfOk g IsSoundParsed) says.1 (sound-pass lines)))
