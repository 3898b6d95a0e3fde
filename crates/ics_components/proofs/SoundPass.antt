-- What is gathered is sound, where the first round finds nothing: each line keeps what is open and what is gathered so.
use Rattle.std.proofs.Common.{◌≡◌, ℕ, Bool, true, false, List, [], ◌∷◌, ◌++◌, map, refl, sym, ◌∙◌, Option, Some, None, IfSome, IfOk, Result, Ok, Err, arith}
use Rattle.std.proofs.Common.{cond, filter, ◌&&◌, not}
use Rattle.std.specs.List.{All, Contains}
use Rattle.std.proofs.lemmas.Bool.{cond_both}
use Rattle.std.proofs.lemmas.List.{length-map, get_or-map}
use Rattle.std.proofs.lemmas.List.Elements.{All-nil, All-cons, All-head, All-tail, All-push, All-append}
use Rattle.std.proofs.lemmas.Result.{IfOk-weaker}
use Rattle.ics_text.specs.Bytes.{upper}
use Rattle.ics_text.specs.ContentLines.{Parts, content_of}
use Rattle.ics_text.specs.Unfolded.{Line}
use Rattle.ics_values.specs.declared.stamp.Stamp.{Stamp}
use Rattle.ics_values.specs.declared.stamp.Stamp.TheVariants as stamp
use Rattle.ics_components.specs.Builders.{builder_at, observance_ended}
use Rattle.ics_components.specs.Components.{component_of, context_in}
use Rattle.ics_components.specs.FirstFault.{Fault}
use Rattle.ics_components.specs.ParsedFiles.{IsSoundInstant, IsSoundCheck, IsSoundParsed, nothing_parsed, zones_of_end, events_of_end, checks_of, and_line}
use Rattle.ics_components.specs.ParsedFileSeen.{ParsedFileSeen}
use Rattle.ics_components.specs.Lines.{builder_note, builder_zone, end_fault, is_of, ended_as, joined, end_check}
use Rattle.ics_components.specs.Lines.{calendar_in, context_on, fault_on, behind, passing}
use Rattle.ics_components.specs.EventLines.{all_events, breaks_off, is_well_nested}
use Rattle.ics_components.specs.Observances.{begins_zone}
use Rattle.ics_components.specs.Parted.{IsSoundComponent, IsSoundParted, Reads, block_of, component_seen, frames_around, gathered_in, if_parted, is_sure}
use Rattle.ics_components.specs.Parted.{parted_lines, read_behind, read_on, unless_faulty}
use Rattle.ics_components.specs.PlacedLines.{Placed, Open, named}
use Rattle.ics_components.specs.declared.fault.FaultKind.TheVariants.{BadLine}
use Rattle.ics_components.proofs.Blocks.{broken-stays}
use Rattle.ics_components.proofs.Judgements.{outside_end, unmatched_end}
use Rattle.ics_components.specs.Pass.{bottom, unless, at_end, on_line, on_content, pass}
use Rattle.ics_components.specs.SecondRound.{zone_named, are_of_one_zone, zone_check, instant_on, instant_in, both_compared, ends_in}
use Rattle.ics_components.specs.Sound.{IsSoundTime, IsSoundRdate, IsSoundEvent, IsSoundObservance, IsSoundZone}
use Rattle.ics_components.specs.declared.builder.Builder.{Builder}
use Rattle.ics_components.specs.declared.builder.Builder.TheVariants as builder
use Rattle.ics_components.specs.declared.component.Context.{Context}
use Rattle.ics_components.specs.declared.component.Context.TheVariants as context
use Rattle.ics_values.specs.declared.time.Time.{Time}
use Rattle.ics_components.specs.declared.deferred_check.DeferredCheck.{DeferredCheck}
use Rattle.ics_components.specs.declared.deferred_check.Instant.{Instant}
use Rattle.ics_components.specs.declared.deferred_check.Instant.TheVariants as instant
use Rattle.ics_components.specs.declared.deferred_check.ZoneName.{ZoneName}
use Rattle.ics_components.specs.declared.fault.FaultKind.{FaultKind}
use Rattle.ics_components.specs.declared.frame.Frame.{Frame}
use Rattle.ics_components.specs.declared.parsed_file.ClosedComponent.{ClosedComponent}
use Rattle.ics_components.specs.declared.parsed_file.ClosedComponent.TheVariants as ended
use Rattle.ics_components.specs.declared.parsed_file.CalendarEvent.{CalendarEvent}
use Rattle.ics_components.specs.declared.parsed_file.CalendarZone.{CalendarZone}
use Rattle.ics_components.specs.declared.parsed_file.LineCheck.{LineCheck}
use Rattle.ics_components.specs.declared.parsed_file.LineResult.{LineResult}
use Rattle.ics_components.specs.declared.name.Name.{Name}
use Rattle.ics_components.specs.declared.name.Name.TheVariants as name
use Rattle.ics_components.proofs.Sound.{IsSoundStamp, IsSoundLocal, IsSoundBegun, IsSoundStarted, observance-noted, observance-sound, zone-sound, event-noted}
use Rattle.ics_components.proofs.Sound.{event-sound}

-- WHAT THE SECOND ROUND LOOKS AT lies in the years of stamps.
instant-sound : (name : ZoneName) (r : Stamp) → IsSoundStamp r → IfSome (instant_on name r) IsSoundInstant
instant-sound name (stamp.Zoned local) h = h
instant-sound name _ h = tt

compared-sound : (a b : Option Instant) → IfSome a IsSoundInstant → IfSome b IsSoundInstant → IfSome (both_compared a b) IsSoundCheck
compared-sound (Some (instant.Utc a)) (Some (instant.Utc b)) h k = grind arith
compared-sound (Some _) (Some _) h k = (h, k)
compared-sound _ _ h k = tt

ends-sound : (P : DeferredCheck → Type 0) (k : ℕ) (start end : Option (Time (List ℕ))) → IfSome start (IsSoundTime P k) → IfSome end (IsSoundTime P k) →
    IfSome (ends_in k start end) IsSoundCheck
ends-sound P k (Some a) (Some b) h i =
    cond_both (are_of_one_zone a b) None (both_compared (instant_in k a) (instant_in k b)) (λ o. IfSome o IsSoundCheck) (λ e. tt)
    (λ e. compared-sound (instant_in k a) (instant_in k b) (instant-sound (zone_named k a.zone) a.stamp h.years)
    (instant-sound (zone_named k b.zone) b.stamp i.years))
ends-sound P k _ _ h i = tt

zone-check : (o : Option ZoneName) → IfSome (zone_check o) IsSoundCheck
zone-check None = tt
zone-check (Some name) = tt

-- WHAT IS OPEN, and what ends on a line, is sound, where P holds of the zones that it names.
abbrev IsSoundBuilder : (DeferredCheck → Type 0) → ℕ → Builder → Type 0
IsSoundBuilder P k (builder.Event had) = IsSoundStarted P k had
IsSoundBuilder P k (builder.Zone had) = All IsSoundObservance had.observances
IsSoundBuilder P k (builder.Observance had) = IsSoundBegun had
IsSoundBuilder P k _ = Unit {0}

abbrev AreSound : (DeferredCheck → Type 0) → List Frame → Type 0
AreSound P [] = Unit {0}
AreSound P (f ∷ fs) = IsSoundBuilder P f.calendar f.builder × AreSound P fs

abbrev IsSoundEnd : (DeferredCheck → Type 0) → ClosedComponent → Type 0
IsSoundEnd P (ended.Zone zone) = IsSoundZone zone.observances
IsSoundEnd P (ended.Event event) = IsSoundEvent P event.calendar event.fields
IsSoundEnd P ended.Nothing = Unit {0}

-- the same behind a line, where P holds of its check
abbrev IsSoundStep : (DeferredCheck → Type 0) → List Frame × LineResult → Type 0
IsSoundStep P r = IfSome r.1.check P → AreSound P r.0 × IsSoundEnd P r.1.ended × IfSome r.1.check IsSoundCheck

-- an END without a fault matches
matched : (b : Builder) (t : Bool) → end_fault t b ≡ None → end_fault true b ≡ None
matched b true n = n
matched b false n = let never = sym (unmatched_end b) ∙ n in cc

module _ (P : DeferredCheck → Type 0) where
  fresh-sound : (k : ℕ) (q : Context) → IsSoundBuilder P k (builder_at [] [] q)
  fresh-sound k context.Event = (tt, tt, tt, All-nil (IsSoundRdate P k), All-nil (IsSoundRdate P k), tt)
  fresh-sound k context.Zone = All-nil IsSoundObservance
  fresh-sound k context.Observance = (tt, tt, tt, tt, All-nil IsSoundLocal)
  fresh-sound k _ = tt

  noted-sound : (k : ℕ) (n : Name) (v : Parts) (b : Builder) → IsSoundBuilder P k b → IfSome (zone_check (builder_zone k n v b)) P →
      IsSoundBuilder P k (builder_note n v b)
  noted-sound k n v (builder.Event had) h c = event-noted P k n v had h c
  noted-sound k name.Tzid v (builder.Zone had) h c = h
  noted-sound k _ v (builder.Zone had) h c = h
  noted-sound k n v (builder.Observance had) h c = observance-noted n v had h
  noted-sound k n v _ h c = tt

  joined-sound : (k m : ℕ) (outer b : Builder) → IsSoundBuilder P m outer → IsSoundBuilder P k b → IsSoundBuilder P m (joined outer b)
  joined-sound k m (builder.Zone outer) (builder.Observance had) o h =
      All-push IsSoundObservance outer.observances (observance_ended had) o (observance-sound had h)
  joined-sound k m _ _ o h = o

  ended-sound : (k : ℕ) (b : Builder) → IsSoundBuilder P k b → end_fault true b ≡ None → IfSome (end_check k b) P →
      IsSoundEnd P (ended_as k b) × IfSome (end_check k b) IsSoundCheck
  ended-sound k (builder.Event had) h n c = (event-sound P k had h n c, ends-sound P k had.start had.end h.0 h.1)
  ended-sound k (builder.Zone had) h n c = (zone-sound had h n, tt)
  ended-sound k _ h n c = (tt, tt)

  step-sound : (number : ℕ) (n : Name) (v : Parts) (frames : List Frame) → AreSound P frames → fault_on n v frames ≡ None →
      IsSoundStep P (behind number n v frames, passing n v frames)
  step-sound number name.Begin v [] h none c = (tt, tt, tt)
  step-sound number name.Begin v (f ∷ fs) h none c =
      ((fresh-sound (calendar_in number (f ∷ fs)) (context_in (context_on (f ∷ fs)) (component_of (map upper v.value))), h), tt, tt)
  step-sound number name.End v [] h none c = (tt, tt, tt)
  step-sound number name.End v (f ∷ []) h none c = let never = sym (outside_end v) ∙ none in cc
  step-sound number name.End v (f ∷ g ∷ gs) h none c =
      let end = ended-sound f.calendar f.builder h.0 (matched f.builder (is_of v.value f) none) c in
      ((joined-sound f.calendar g.calendar g.builder f.builder h.1.0 h.0, h.1.1), end.0, end.1)
  step-sound number _ v [] h none c = (tt, tt, tt)
  step-sound number n v (f ∷ fs) h none c = ((noted-sound f.calendar n v f.builder h.0 c, h.1), tt, zone-check (builder_zone f.calendar n v f.builder))

-- WHAT IS GATHERED is sound, where P holds of the zones that its events name.
abbrev IsSoundClosed : CalendarZone → Type 0
IsSoundClosed zone = IsSoundZone zone.observances

abbrev IsSoundLine : LineCheck → Type 0
IsSoundLine late = IsSoundCheck late.check

all-parts : {X : Type 0} (P : X → Type 0) (xs ys : List X) → All P (xs ++ ys) → All P xs × All P ys
all-parts P [] ys h = (All-nil P, h)
all-parts P (x ∷ xs) ys h =
    let rest = all-parts P xs ys (All-tail P x (xs ++ ys) h) in (All-cons P x xs (All-head P x (xs ++ ys) h) rest.0, rest.1)

one : {X : Type 0} (P : X → Type 0) (x : X) → P x → All P (x ∷ [])
one P x h = All-cons P x [] h (All-nil P)

module _ (P : DeferredCheck → Type 0) where
  abbrev IsSoundBehind : CalendarEvent → Type 0
  IsSoundBehind event = IsSoundEvent P event.calendar event.fields

  abbrev Holds : LineCheck → Type 0
  Holds late = P late.check

  abbrev IsSound : ParsedFileSeen → Type 0
  IsSound g = All IsSoundClosed g.zones × All IsSoundBehind g.events × All IsSoundLine g.checks

  end-parsed : (e : ClosedComponent) → IsSoundEnd P e → All IsSoundClosed (zones_of_end e) × All IsSoundBehind (events_of_end e)
  end-parsed (ended.Zone zone) h = (one IsSoundClosed zone h, All-nil IsSoundBehind)
  end-parsed (ended.Event event) h = (All-nil IsSoundClosed, one IsSoundBehind event h)
  end-parsed ended.Nothing h = (All-nil IsSoundClosed, All-nil IsSoundBehind)

  check-parsed : (number : ℕ) (o : Option DeferredCheck) → IfSome o IsSoundCheck → All IsSoundLine (checks_of number o)
  check-parsed number None h = All-nil IsSoundLine
  check-parsed number (Some c) h = one IsSoundLine (record { line = number; check = c }) h

  check-held : (number : ℕ) (o : Option DeferredCheck) → All Holds (checks_of number o) → IfSome o P
  check-held number None h = tt
  check-held number (Some c) h = All-head Holds (record { line = number; check = c }) [] h

  -- from some frames on, where P holds of all checks at the end
  abbrev Goes : List Frame → ParsedFileSeen → ParsedFileSeen → Type 0
  Goes frames had g = All Holds g.checks → All Holds had.checks × (AreSound P frames → IsSound had → IsSound g)

  -- the same from a line before on
  goes-on : (number : ℕ) (frames now : List Frame) (here : LineResult) (had : ParsedFileSeen) (r : Result ParsedFileSeen Fault) →
      (AreSound P frames → IsSoundStep P (now, here)) → IfOk r (Goes now (and_line number here had)) → IfOk r (Goes frames had)
  goes-on number frames now here had r step =
      IfOk-weaker r (Goes now (and_line number here had)) (Goes frames had) (λ g later all.
      let behind = later all in
      let checks = all-parts Holds had.checks (checks_of number here.check) behind.0 in (
        checks.0,
        λ f h.
            let after = step f (check-held number here.check checks.1) in
            let ended = end-parsed here.ended after.1 in
            behind.1 after.0 (
              All-append IsSoundClosed had.zones (zones_of_end here.ended) h.0 ended.0,
              All-append IsSoundBehind had.events (events_of_end here.ended) h.1 ended.1,
              All-append IsSoundLine had.checks (checks_of number here.check) h.2 (check-parsed number here.check after.2),
            ),
      ))

  passes : (lines : List Line) (frames : List Frame) (last : Option ℕ) (had : ParsedFileSeen) → IfOk (pass frames last had lines) (Goes frames had)
  passes [] frames last had = by_end (at_end frames last)
    where
      by_end : (o : Option Fault) → IfOk (unless o had) (Goes frames had)
      by_end (Some fault) = tt
      by_end None = λ all. (all, λ f h. h)
  passes (line ∷ lines) frames last had = by_content (passes lines) (content_of line.bytes)
    where
      Again : Type 0
      Again = (frames : List Frame) (last : Option ℕ) (had : ParsedFileSeen) → IfOk (pass frames last had lines) (Goes frames had)

      by_line : Again → (o : Option FaultKind) (now : List Frame) (here : LineResult) → (AreSound P frames → o ≡ None → IsSoundStep P (now, here)) →
          IfOk (on_line line.number o (pass now (Some line.number) (and_line line.number here had) lines)) (Goes frames had)
      by_line again (Some k) now here step = tt
      by_line again None now here step =
          goes-on line.number frames now here had (pass now (Some line.number) (and_line line.number here had) lines) (λ f. step f refl)
          (again now (Some line.number) (and_line line.number here had))

      by_content : Again → (o : Option Parts) →
          IfOk (on_content line.number o frames had (λ frames had. pass frames (Some line.number) had lines)) (Goes frames had)
      by_content again None = tt
      by_content again (Some v) =
          let n : Name = named v in
          by_line again (fault_on n v frames) (behind line.number n v frames) (passing n v frames) (λ f. step-sound P line.number n v frames f)

  -- lines in their places
  reads : (ls : List Placed) (frames : List Frame) (had : ParsedFileSeen) → IfOk (gathered_in (read_behind (Reads frames had) ls)) (Goes frames had)
  reads [] frames had = λ all. (all, λ f h. h)
  reads (l ∷ ls) frames had = by_content (reads ls) l.content
    where
      Again : Type 0
      Again = (frames : List Frame) (had : ParsedFileSeen) → IfOk (gathered_in (read_behind (Reads frames had) ls)) (Goes frames had)

      by_line : Again → (o : Option FaultKind) (now : List Frame) (here : LineResult) → (AreSound P frames → o ≡ None → IsSoundStep P (now, here)) →
          IfOk (gathered_in (read_behind (unless_faulty l.number o (Reads now (and_line l.number here had))) ls)) (Goes frames had)
      by_line again (Some k) now here step = rw (broken-stays ls (record { line = l.number; kind = k })) tt
      by_line again None now here step =
          goes-on l.number frames now here had (gathered_in (read_behind (Reads now (and_line l.number here had)) ls)) (λ f. step f refl)
          (again now (and_line l.number here had))

      by_content : Again → (o : Option Parts) → IfOk (gathered_in (read_behind (read_on l.number o (Reads frames had)) ls)) (Goes frames had)
      by_content again None = rw (broken-stays ls (record { line = l.number; kind = BadLine })) tt
      by_content again (Some v) =
          let n : Name = named v in
          by_line again (fault_on n v frames) (behind l.number n v frames) (passing n v frames) (λ f. step-sound P l.number n v frames f)

-- the second round makes all checks that are gathered
sound-whole : (frames : List Frame) → ((P : DeferredCheck → Type 0) → AreSound P frames) → (r : Result ParsedFileSeen Fault) →
    ((P : DeferredCheck → Type 0) → IfOk r (Goes P frames nothing_parsed)) → IfOk r IsSoundParsed
sound-whole frames open_sound (Err fault) goes = tt
sound-whole frames open_sound (Ok g) goes =
    let Made : DeferredCheck → Type 0 = Contains (map (λ w. w.check) g.checks) in
    let sound =
    (goes Made (λ i d lt. (i, simp length-map lt, get_or-map (λ w. w.check) g.checks i d _ lt))).1
    (open_sound Made) (All-nil IsSoundClosed, All-nil (IsSoundBehind Made), All-nil IsSoundLine) in
    record { zones = sound.0; events = sound.1; sound = sound.2 }

pub sound-pass : (lines : List Line) → IfOk (pass (bottom ∷ []) None nothing_parsed lines) IsSoundParsed
sound-pass lines =
    sound-whole (bottom ∷ []) (λ P. (tt, tt)) (pass (bottom ∷ []) None nothing_parsed lines) (λ P. passes P lines (bottom ∷ []) None nothing_parsed)

-- EACH COMPONENT of a file by itself.
around-sound : (path : List Open) (P : DeferredCheck → Type 0) → AreSound P (frames_around path)
around-sound [] P = (tt, tt)
around-sound (c ∷ cs) P = (tt, (tt, tt))

pub sound-read : (ls : List Placed) (path : List Open) →
    IfOk (gathered_in (read_behind (Reads (frames_around path) nothing_parsed) ls)) IsSoundParsed
sound-read ls path =
    sound-whole (frames_around path) (around-sound path) (gathered_in (read_behind (Reads (frames_around path) nothing_parsed) ls))
    (λ P. reads P ls (frames_around path) nothing_parsed)

all-sound : (lines es : List Placed) → All IsSoundComponent (map (component_seen lines) es)
all-sound lines [] = All-nil IsSoundComponent
all-sound lines (e ∷ es) =
    All-cons IsSoundComponent (component_seen lines e) (map (component_seen lines) es) (sound-read (block_of lines e) e.path) (all-sound lines es)

pub sound_parts : (file : Option (List ℕ)) (lines : List Placed) → IfSome (if_parted file lines) IsSoundParted
sound_parts file lines = by_test (is_well_nested lines && not (breaks_off lines) && is_sure file lines)
  where
    by_test : (t : Bool) → IfSome (cond t (Some (parted_lines lines)) None) IsSoundParted
    by_test false = tt
    by_test true = (all-sound lines (all_events lines), all-sound lines (filter begins_zone lines))
