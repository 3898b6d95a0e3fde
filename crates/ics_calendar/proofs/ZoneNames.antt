-- What is read of a time zone is called as its one TZID says, in its calendar.
use Rattle.std.proofs.Common.{◌≡◌, ℕ, Bool, true, false, ◌&&◌, ◌||◌, ◌==◌, List, [], ◌∷◌, ◌++◌, drop, map, refl, sym, ap, ◌∙◌}
use Rattle.std.proofs.Common.{Option, Some, None, Ok, arith, cond, is_some, subst, ⊎_elim}
use Rattle.std.specs.Prelude.{codes, not}
use Rattle.std.specs.Option.{option_or}
use Rattle.std.proofs.lemmas.Bool.{ne_eqb}
use Rattle.ics_text.specs.Bytes.{upper}
use Rattle.ics_text.specs.ContentLines.{Parts}
use Rattle.ics_values.specs.Plain.{text_of}
use Rattle.ics_components.specs.declared.builder.Builder.{Builder}
use Rattle.ics_components.specs.declared.builder.Builder.TheVariants as builder
use Rattle.ics_components.specs.declared.builder.ZoneBuilder.{ZoneBuilder}
use Rattle.ics_components.specs.declared.component.Component.{Component}
use Rattle.ics_components.specs.declared.component.Component.TheVariants as component
use Rattle.ics_components.specs.declared.deferred_check.ZoneName.{ZoneName}
use Rattle.ics_components.specs.declared.fault.FaultKind.TheVariants.{NoObservance, ObservanceField}
use Rattle.ics_components.specs.declared.frame.Frame.{Frame}
use Rattle.ics_components.specs.declared.name.Name.{Name}
use Rattle.ics_components.specs.declared.name.Name.TheVariants as name
use Rattle.ics_components.specs.declared.parsed_file.CalendarZone.{CalendarZone}
use Rattle.ics_components.specs.Builders.{builder_at}
use Rattle.ics_components.specs.Components.{context_in, is_calendar_context}
use Rattle.ics_components.specs.EventLines.{is_event, texts_in}
use Rattle.ics_components.specs.Lines.{builder_note, context_at, end_fault, ended_as, fault_on, joined, least_fault, line_fault, passing}
use Rattle.ics_components.specs.Names.{same_name}
use Rattle.ics_components.specs.Observances.{begins_zone}
use Rattle.ics_components.specs.ParsedFileSeen.{ParsedFileSeen}
use Rattle.ics_components.specs.ParsedFiles.{and_line, zones_of_end}
use Rattle.ics_components.specs.Parted.{AreInPlace, PartedComponentSeen, component_seen}
use Rattle.ics_components.specs.PlacedLines.{Open, Placed, all_named, context_of, in_calendar, innermost, is_end, is_named, lines_in}
use Rattle.ics_components.specs.PlacedLines.{name_on, named, path_behind, value}
use Rattle.ics_components.specs.SecondRound.{zone_named}
use Rattle.ics_components.proofs.BlockHolds.{IsFrom, IsHeld, IsRead, begun_frame, held_block, is_property}
use Rattle.ics_components.proofs.Folds.{part-bounds}
use Rattle.ics_components.proofs.ItemFaults.{IsIn}
use Rattle.ics_components.proofs.Judgements.{unmatched_end, zone_end}
use Rattle.ics_components.proofs.Order.{Absent}
use Rattle.ics_components.proofs.PartKinds.{begins-called}
use Rattle.ics_components.proofs.PartPaths.{closed-part}
use Rattle.ics_components.proofs.PartsLemmas.{AreElsewhere, elsewhere}
use Rattle.ics_components.proofs.RestFaults.{right-or, two-of}

-- A TZID without a fault is the first of its time zone, and a time zone that ends without one has one.
zone-line : (c : Parts) (had : ZoneBuilder) → line_fault name.Tzid c (builder.Zone had) ≡ cond (is_some had.name) (Some ObservanceField) None
unfolding least_fault
zone-line c had = grind arith

no-name : (o : Option (List ℕ)) → cond (is_some o) (Some ObservanceField) None ≡ None → o ≡ None
no-name None e = refl
no-name (Some text) e = cc

one-name : (t s : Bool) → cond t (Some NoObservance) (cond s None (Some ObservanceField)) ≡ None → s ≡ true
one-name true s e = cc
one-name false true e = refl
one-name false false e = cc

ends-named : (t : Bool) (had : ZoneBuilder) → end_fault t (builder.Zone had) ≡ None → is_some had.name ≡ true
ends-named true had e = one-name _ (is_some had.name) (sym (zone_end had) ∙ e)
ends-named false had e = let never = sym (unmatched_end (builder.Zone had)) ∙ e in cc

-- WHAT THE TZID LINES of a component say, line by line.
abbrev texts : ℕ → List Placed → List (List ℕ)
texts b ls = map (λ line. text_of (value line)) (all_named name.Tzid (lines_in b ls))

no-text : (b : ℕ) (l : Placed) (ls : List Placed) → (is_named name.Tzid l && (innermost l.path == b)) ≡ false → texts b (l ∷ ls) ≡ texts b ls
no-text b l ls e = by_tests (is_named name.Tzid l) (innermost l.path == b) refl e
  where
    by_tests : (t d : Bool) → is_named name.Tzid l ≡ t → (t && d) ≡ false →
        map (λ line. text_of (value line)) (all_named name.Tzid (cond d (l ∷ lines_in b ls) (lines_in b ls))) ≡ texts b ls
    by_tests t false e f = refl
    by_tests true true e f = cc
    by_tests false true e f = rw e refl

one-text : (b : ℕ) (l : Placed) (ls : List Placed) → (is_named name.Tzid l && (innermost l.path == b)) ≡ true →
    texts b (l ∷ ls) ≡ text_of (value l) ∷ texts b ls
one-text b l ls e = let both = two-of (is_named name.Tzid l) (innermost l.path == b) e in rw (both.1, both.0) refl

no-texts : (b : ℕ) (ls : List Placed) → AreElsewhere b ls → texts b ls ≡ []
no-texts b [] h = refl
no-texts b (l ∷ ls) h = rw (h.1) (no-texts b ls h.2)

-- within a time zone: an observance, or what is not read
abbrev IsInner : Builder → Type 0
IsInner (builder.Observance had) = Unit {0}
IsInner builder.Elsewhere = Unit {0}
IsInner _ = ⊥

opens-inner : (g : Builder) → IsInner g → (c : Component) → IsInner (builder_at [] [] (context_in (context_at g) c))
opens-inner (builder.Observance had) i c = tt
opens-inner builder.Elsewhere i c = tt
opens-inner _ i c = absurd i

notes-inner : (n : Name) (c : Parts) (g : Builder) → IsInner g → IsInner (builder_note n c g)
notes-inner n c (builder.Observance had) x = tt
notes-inner n c builder.Elsewhere x = tt
notes-inner n c _ x = absurd x

ends-inner : (g i : Builder) → IsInner g → IsInner (joined g i)
ends-inner (builder.Observance had) i x = tt
ends-inner builder.Elsewhere i x = tt
ends-inner _ i x = absurd x

-- A NAME in that calendar that is the only text.
pub record IsOnly (all : List (List ℕ)) (calendar : ℕ) (used : ZoneName) : Type 0 where
  pub text : List ℕ
  pub called : used ≡ zone_named calendar (Some text)
  pub only : all ≡ text ∷ []

abbrev pub AreCalled : List (List ℕ) → ℕ → List CalendarZone → Type 0
AreCalled all calendar [] = Unit {0}
AreCalled all calendar (z ∷ zs) = IsOnly all calendar z.name × AreCalled all calendar zs

both-called : (all : List (List ℕ)) (calendar : ℕ) (zs ws : List CalendarZone) → AreCalled all calendar zs → AreCalled all calendar ws →
    AreCalled all calendar (zs ++ ws)
both-called all calendar [] ws a b = b
both-called all calendar (z ∷ zs) ws a b = (a.0, both-called all calendar zs ws a.1 b)

-- THE TIME ZONE: its texts are that which is noted, if there is one, and those of the lines that are left.
module _ (all : List (List ℕ)) (k b : ℕ) where
  abbrev IsNoted : List (List ℕ) → Option (List ℕ) → Type 0
  IsNoted left None = all ≡ left
  IsNoted left (Some text) = all ≡ text ∷ left

  abbrev IsOwn : List (List ℕ) → Builder → Type 0
  IsOwn left (builder.Zone had) = IsNoted left had.name
  IsOwn left _ = ⊥

  named-as : (left : List (List ℕ)) (m : ℕ) (o : Option (List ℕ)) → is_some o ≡ true → IsNoted left o → left ≡ [] → m ≡ k → IsOnly all k (zone_named m o)
  named-as left m None s x e f = cc
  named-as left m (Some text) s x e f =
      record { text = text; called = ap (λ n. zone_named n (Some text)) f; only = x ∙ ap (λ ts. text ∷ ts) e }

  opens-own : (left : List (List ℕ)) (g : Builder) → IsOwn left g → (c : Component) → IsInner (builder_at [] [] (context_in (context_at g) c))
  opens-own left (builder.Zone had) x component.Standard = tt
  opens-own left (builder.Zone had) x component.Daylight = tt
  opens-own left (builder.Zone had) x _ = tt
  opens-own left _ x c = absurd x

  ends-own : (left : List (List ℕ)) (g i : Builder) → IsOwn left g → IsOwn left (joined g i)
  ends-own left (builder.Zone had) (builder.Observance other) x = x
  ends-own left (builder.Zone had) _ x = x
  ends-own left _ i x = absurd x

  -- what ends is called so
  end-called : (left : List (List ℕ)) (c : Parts) (f g : Frame) (gs : List Frame) → fault_on name.End c (f ∷ g ∷ gs) ≡ None → f.calendar ≡ k →
      IsOwn left f.builder → left ≡ [] → AreCalled all k (zones_of_end (ended_as f.calendar f.builder))
  end-called left c f g gs none same x empty = by_builder f.builder none x
    where
      by_builder : (i : Builder) → fault_on name.End c (record f { builder = i } ∷ g ∷ gs) ≡ None → IsOwn left i →
          AreCalled all k (zones_of_end (ended_as f.calendar i))
      by_builder (builder.Zone had) none x = (named-as left f.calendar had.name (ends-named _ had none) x empty same, tt)
      by_builder _ none x = absurd x

  inner-called : (m : ℕ) (g : Builder) → IsInner g → AreCalled all k (zones_of_end (ended_as m g))
  inner-called m (builder.Observance had) x = tt
  inner-called m builder.Elsewhere x = tt
  inner-called m _ x = absurd x

  line-called : (number : ℕ) (n : Name) (c : Parts) (f g : Frame) (gs : List Frame) (had : ParsedFileSeen) →
      (same_name n name.End ≡ true → fault_on name.End c (f ∷ g ∷ gs) ≡ fault_on n c (f ∷ g ∷ gs) →
      AreCalled all k (zones_of_end (ended_as f.calendar f.builder))) →
      AreCalled all k had.zones → AreCalled all k (and_line number (passing n c (f ∷ g ∷ gs)) had).zones
  line-called number name.End c f g gs had ended called =
      both-called all k had.zones (zones_of_end (ended_as f.calendar f.builder)) called (ended refl refl)
  line-called number _ c f g gs had ended called = both-called all k had.zones [] called tt

  -- A LINE takes its text from those that are left, if it is a TZID of the zone.
  module _ (before after : List (List ℕ)) where
    notes-first : (c : Parts) (g : Builder) → line_fault name.Tzid c g ≡ None → before ≡ text_of c.value ∷ after → IsOwn before g →
        IsOwn after (builder_note name.Tzid c g)
    notes-first c (builder.Zone had) none take x = by_name had.name (no-name had.name (sym (zone-line c had) ∙ none)) x
      where
        by_name : (o : Option (List ℕ)) → o ≡ None → IsNoted before o → IsNoted after (option_or o (Some (text_of c.value)))
        by_name None e x = x ∙ take
        by_name (Some text) e x = cc
    notes-first c _ none take x = absurd x

    notes-other : (n : Name) (c : Parts) (g : Builder) → same_name n name.Tzid ≡ false → before ≡ after → IsOwn before g → IsOwn after (builder_note n c g)
    notes-other name.Tzid c g e same x = cc
    notes-other _ c (builder.Zone had) e same x = subst (λ left. IsNoted left had.name) same x
    notes-other _ c _ e same x = absurd x

    notes-own : (n : Name) (c : Parts) (f g : Frame) (gs : List Frame) → fault_on n c (f ∷ g ∷ gs) ≡ None → (same_name n name.Tzid ≡ false → before ≡ after) →
        (same_name n name.Tzid ≡ true → before ≡ text_of c.value ∷ after) → IsOwn before f.builder → IsOwn after (builder_note n c f.builder)
    notes-own name.Tzid c f g gs none skip take x = notes-first c f.builder none (take refl) x
    notes-own n c f g gs none skip take x = notes-other n c f.builder refl (skip refl) x

  end-no-text : (m : Name) → same_name m name.End ≡ true → same_name m name.Tzid ≡ false
  end-no-text name.End e = refl
  end-no-text _ e = cc

  end-no-begin : (m : Name) → same_name m name.End ≡ true → same_name m name.Begin ≡ false
  end-no-begin name.End e = refl
  end-no-begin _ e = cc

  not-own : (n : Name) (t : Bool) → (not (same_name n name.Begin || same_name n name.End) && t) ≡ false → (same_name n name.Tzid && t) ≡ false
  not-own name.Tzid t e = e
  not-own _ t e = refl

  abbrev Own : List Placed → Frame → Type 0
  Own left f = (f.calendar ≡ k) × IsOwn (texts b left) f.builder

  module _ (ls : List Placed) where
    -- none of its lines is left behind its END
    ended : (l : Placed) (left : List Placed) (c : Parts) (frames : List Frame) → IsRead ls b l left c frames → is_end l ≡ true →
        (innermost l.path == b) ≡ true → texts b (l ∷ left) ≡ []
    ended l left c frames read e t =
        let bounds = part-bounds l.path b read.falls read.within in
        let path : path_behind l ≡ drop 1 l.path = rw (end-no-begin (name_on l.content) e, e) refl in
        let out = closed-part l.path b read.falls read.within t in
        let gone : Absent b (path_behind l) = rw path out.1 in
        no-text b l left (rw (end-no-text (name_on l.content) e) refl)
        ∙ no-texts b left (elsewhere left b l.number (path_behind l) bounds.0 (omega (arith, bounds.1, read.inner)) gone read.places)

    gathers-own : (l : Placed) (left : List Placed) (c : Parts) (f g : Frame) (gs : List Frame) (had : ParsedFileSeen) →
        IsRead ls b l left c (f ∷ g ∷ gs) → (innermost l.path == b) ≡ true → Own (l ∷ left) f → AreCalled all k had.zones →
        AreCalled all k (and_line l.number (passing (named c) c (f ∷ g ∷ gs)) had).zones
    unfolding name_on
    gathers-own l left c f g gs had read t own called =
        line-called l.number (named c) c f g gs had
        (λ e same. end-called (texts b (l ∷ left)) c f g gs (same ∙ read.sound) own.0 own.1
        (ended l left c (f ∷ g ∷ gs) read (rw (read.content) e) t)) called

    skips : (l : Placed) (left : List Placed) (c : Parts) → l.content ≡ Some c → is_property b l.path (named c) ≡ false → texts b (l ∷ left) ≡ texts b left
    unfolding name_on
    skips l left c at t = no-text b l left (rw at (not-own (named c) (innermost l.path == b) t))

    notes-line : (l : Placed) (left : List Placed) (c : Parts) (f g : Frame) (gs : List Frame) → IsRead ls b l left c (f ∷ g ∷ gs) →
        is_property b l.path (named c) ≡ true → Own (l ∷ left) f → Own left (record f { builder = builder_note (named c) c f.builder })
    unfolding name_on
    notes-line l left c f g gs read t own =
        let at = read.content in
        let direct : (innermost l.path == b) ≡ true =
        (two-of (not (same_name (named c) name.Begin || same_name (named c) name.End)) (innermost l.path == b) t).1 in
        let said : text_of (value l) ≡ text_of c.value = rw at refl in (
          own.0,
          notes-own (texts b (l ∷ left)) (texts b left) (named c) c f g gs (read.sound)
              (λ e. no-text b l left (rw (at, e) refl))
              (λ e. one-text b l left (rw (at, e) direct) ∙ ap (λ text. text ∷ texts b left) said) own.1,
        )

    held : IsHeld ls b Own IsInner (λ read. AreCalled all k read.zones)
    held = record {
      begins = λ left f x c. ⊎_elim (λ own. opens-own (texts b left) f.builder own.1 c) (λ inner. opens-inner f.builder inner c) x;
      joins = λ left f i own. (own.0, ends-own (texts b left) f.builder i own.1);
      joins_inner = ends-inner;
      notes = notes-line;
      notes_inner = notes-inner;
      passes = λ l left c f at t own. (own.0, subst (λ ts. IsOwn ts f.builder) (skips l left c at t) own.1);
      gathers = gathers-own;
      gathers_inner = λ number n c f g gs had inner called.
          line-called number n c f g gs had (λ e same. inner-called f.calendar f.builder inner) called;
    }

-- WHAT IS READ OF A TIME ZONE is called as its one TZID says, in its calendar.
pub zone_called : (ls : List Placed) → AreInPlace 0 [] ls → (z : Placed) → IsIn z ls → begins_zone z ≡ true → (read : ParsedFileSeen) →
    (component_seen ls z).read ≡ Ok read → AreCalled (texts_in name.Tzid ls z) (innermost z.path) read.zones
zone_called ls h z i t read e =
    held_block ls z (held all k z.number ls) h i (right-or (is_event z) (begins_zone z) t)
    (λ from c at. by_path from c (begins-called z (codes "VTIMEZONE") (two-of (in_calendar z) _ t).1 c at) z.path refl (two-of (in_calendar z) _ t).0) tt read e
  where
    all : List (List ℕ)
    all = texts_in name.Tzid ls z

    k : ℕ
    k = innermost z.path

    all-left : (from : IsFrom ls z) → all ≡ texts z.number from.rest
    all-left from =
        let inner = from.inner in
        let own : texts_in name.Tzid (z ∷ from.rest) z ≡ texts z.number from.rest =
        rw (ne_eqb (innermost z.path) z.number (λ same. omega (arith, same, inner))) refl in
        ap (λ (seen : PartedComponentSeen). seen.names) from.same ∙ own

    by_path : (from : IsFrom ls z) (c : Parts) → map upper c.value ≡ codes "VTIMEZONE" → (path : List Open) → z.path ≡ path →
        is_calendar_context (context_of path) ≡ true → Own all k z.number from.rest (begun_frame z.number c path)
    by_path from c word [] is i = cc
    by_path from c word (o ∷ os) is i = rw word (sym (ap innermost is), all-left from)
