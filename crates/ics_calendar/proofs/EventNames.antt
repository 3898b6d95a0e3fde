-- Each time zone that a check of an event is of is one that the event names.
use Rattle.std.proofs.Common.{◌≡◌, ◌⊎◌, inl, inr, ℕ, Bool, true, ◌||◌, ◌==◌, List, [], ◌∷◌, map, refl, sym, ap, ◌∙◌, Option, Some, None, Ok}
use Rattle.std.proofs.Common.{⊎_elim}
use Rattle.std.specs.Prelude.{codes, filter_map}
use Rattle.std.specs.List.{All, Contains, cons_option, list_any}
use Rattle.std.specs.Option.{option_and_then}
use Rattle.std.proofs.lemmas.Bool.{eq-eqb}
use Rattle.std.proofs.lemmas.List.Elements.{All-append, All-cons, All-contains, All-nil}
use Rattle.std.proofs.lemmas.Slice.Eq.{bytes_eq-Decides}
use Rattle.ics_text.specs.Bytes.{upper}
use Rattle.ics_text.specs.ContentLines.{Parts}
use Rattle.ics_components.specs.declared.builder.Builder.{Builder}
use Rattle.ics_components.specs.declared.builder.Builder.TheVariants as builder
use Rattle.ics_components.specs.declared.component.Component.{Component}
use Rattle.ics_components.specs.declared.deferred_check.DeferredCheck.{DeferredCheck}
use Rattle.ics_components.specs.declared.deferred_check.DeferredCheck.TheVariants as check
use Rattle.ics_components.specs.declared.deferred_check.ZoneName.{ZoneName}
use Rattle.ics_components.specs.declared.frame.Frame.{Frame}
use Rattle.ics_components.specs.declared.name.Name.{Name}
use Rattle.ics_components.specs.declared.name.Name.TheVariants as name
use Rattle.ics_components.specs.declared.parsed_file.LineCheck.{LineCheck}
use Rattle.ics_components.specs.Builders.{builder_at}
use Rattle.ics_components.specs.Components.{context_in}
use Rattle.ics_components.specs.EventLines.{is_event, named_by, named_on}
use Rattle.ics_components.specs.FirstFault.{no_open}
use Rattle.ics_components.specs.Lines.{builder_note, check_in, context_at, joined, passing}
use Rattle.ics_components.specs.Observances.{begins_zone}
use Rattle.ics_components.specs.ParsedFileSeen.{ParsedFileSeen}
use Rattle.ics_components.specs.ParsedFiles.{and_line, checks_of}
use Rattle.ics_components.specs.Parted.{AreInPlace, component_seen}
use Rattle.ics_components.specs.PlacedLines.{Open, Placed, in_calendar, innermost, lines_in, named}
use Rattle.ics_components.proofs.BlockHolds.{IsHeld, begun_frame, held_block}
use Rattle.ics_components.proofs.ItemFaults.{IsIn}
use Rattle.ics_components.proofs.PartKinds.{begins-called}
use Rattle.ics_components.proofs.RestFaults.{filter-in, left-or, right-or, two-of}
use Rattle.ics_calendar.specs.DeferredChecks.{is_same}
use Rattle.ics_calendar.proofs.NamedZones.{check-named}
use Rattle.ics_calendar.proofs.OneUid.{was-mapped}
use Rattle.ics_calendar.proofs.PartWords.{names}

-- A LINE THAT STANDS DIRECTLY IN AN EVENT names a time zone of it.
pub any-said : (f : Placed → Option (List ℕ)) (p : List ℕ → Bool) (ks : List Placed) (l : Placed) (text : List ℕ) → IsIn l ks → f l ≡ Some text →
    p text ≡ true → list_any p (filter_map f ks) ≡ true
any-said f p [] l text i e t = absurd i
any-said f p (m ∷ ms) l text i e t = by_place (λ j. any-said f p ms l text j e t) i
  where
    more : (o : Option (List ℕ)) → list_any p (filter_map f ms) ≡ true → list_any p (cons_option o (filter_map f ms)) ≡ true
    more None any = any
    more (Some other) any = right-or (p other) (list_any p (filter_map f ms)) any

    by_place : (IsIn l ms → list_any p (filter_map f ms) ≡ true) → (m ≡ l) ⊎ IsIn l ms → list_any p (cons_option (f m) (filter_map f ms)) ≡ true
    by_place later (inl same) = rw (ap f same ∙ e) (left-or (p text) (list_any p (filter_map f ms)) t)
    by_place later (inr j) = more (f m) (later j)

module _ (ls : List Placed) (event : Placed) where
  abbrev IsOfLine : Option (List ℕ) → Type 0
  IsOfLine o = (used : ZoneName) → used.calendar ≡ innermost event.path → o ≡ Some used.name → names ls used event ≡ true

  line-names : (l : Placed) → IsIn l ls → (innermost l.path == event.number) ≡ true → IsOfLine (named_on l)
  line-names l i direct used calendar text =
      any-said named_on (λ zone. is_same used (record { calendar = innermost event.path; name = zone })) (lines_in event.number ls) l used.name
      (filter-in (λ m. innermost m.path == event.number) ls l i direct) text
      (rw (eq-eqb used.calendar (innermost event.path) calendar, (bytes_eq-Decides used.name used.name).1 refl) refl)

  -- WHAT IS OPEN: the event, in its calendar, and what is not read.
  abbrev IsInner : Builder → Type 0
  IsInner builder.Elsewhere = Unit {0}
  IsInner _ = ⊥

  abbrev IsOwn : ℕ → Builder → Type 0
  IsOwn calendar (builder.Event had) = calendar ≡ innermost event.path
  IsOwn calendar builder.Elsewhere = Unit {0}
  IsOwn calendar _ = ⊥

  begins-inner : (calendar : ℕ) (g : Builder) → IsOwn calendar g ⊎ IsInner g → (c : Component) → IsInner (builder_at [] [] (context_in (context_at g) c))
  begins-inner calendar (builder.Event had) x c = tt
  begins-inner calendar builder.Elsewhere x c = tt
  begins-inner calendar _ (inl x) c = absurd x
  begins-inner calendar _ (inr x) c = absurd x

  ends-own : (calendar : ℕ) (g i : Builder) → IsOwn calendar g → IsOwn calendar (joined g i)
  ends-own calendar (builder.Event had) i x = x
  ends-own calendar builder.Elsewhere i x = tt
  ends-own calendar _ i x = absurd x

  ends-inner : (g i : Builder) → IsInner g → IsInner (joined g i)
  ends-inner builder.Elsewhere i x = tt
  ends-inner _ i x = absurd x

  notes-own : (n : Name) (c : Parts) (calendar : ℕ) (g : Builder) → IsOwn calendar g → IsOwn calendar (builder_note n c g)
  notes-own n c calendar (builder.Event had) x = x
  notes-own n c calendar builder.Elsewhere x = tt
  notes-own n c calendar _ x = absurd x

  notes-inner : (n : Name) (c : Parts) (g : Builder) → IsInner g → IsInner (builder_note n c g)
  notes-inner n c builder.Elsewhere x = tt
  notes-inner n c _ x = absurd x

  -- THE CHECK OF A LINE: what is not read has none.
  abbrev IsNamed : LineCheck → Type 0
  IsNamed w = (used : ZoneName) → w.check ≡ check.Zone used → names ls used event ≡ true

  one-check : (number : ℕ) (o : Option DeferredCheck) → ((used : ZoneName) → o ≡ Some (check.Zone used) → names ls used event ≡ true) →
      All IsNamed (checks_of number o)
  one-check number None is = All-nil IsNamed
  one-check number (Some c) is =
      All-cons IsNamed (record { line = number; check = c }) [] (λ used e. is used (ap (λ (c : DeferredCheck). Some c) e)) (All-nil IsNamed)

  no-check : (n : Name) (c : Parts) (f : Frame) → IsInner f.builder → check_in n c f ≡ None
  no-check n c f x = by_builder f.builder x n
    where
      by_builder : (g : Builder) → IsInner g → (n : Name) → check_in n c (record f { builder = g }) ≡ None
      by_builder builder.Elsewhere x name.Begin = refl
      by_builder builder.Elsewhere x name.End = refl
      by_builder builder.Elsewhere x _ = refl
      by_builder _ x n = absurd x

  in-calendar : (calendar : ℕ) (g : Builder) → IsOwn calendar g → (calendar ≡ innermost event.path) ⊎ IsInner g
  in-calendar calendar (builder.Event had) x = inl x
  in-calendar calendar builder.Elsewhere x = inr tt
  in-calendar calendar _ x = absurd x

  line-named : (number : ℕ) (n : Name) (c : Parts) (f g : Frame) (gs : List Frame) (had : ParsedFileSeen) →
      ((f.calendar ≡ innermost event.path) × IsOfLine (named_by c)) ⊎ IsInner f.builder → All IsNamed had.checks →
      All IsNamed (and_line number (passing n c (f ∷ g ∷ gs)) had).checks
  line-named number n c f g gs had x are =
      All-append IsNamed had.checks (checks_of number (check_in n c f)) are
      (one-check number (check_in n c f) (λ used e. ⊎_elim (own used e) (λ inner. never used (sym (no-check n c f inner) ∙ e)) x))
    where
      own : (used : ZoneName) → check_in n c f ≡ Some (check.Zone used) → (f.calendar ≡ innermost event.path) × IsOfLine (named_by c) →
          names ls used event ≡ true
      own used e x = let is = check-named n c f used e in x.1 used (is.0 ∙ x.0) is.1

      never : (used : ZoneName) → None ≡ Some (check.Zone used) → names ls used event ≡ true
      never used e = cc

  held : IsHeld ls event.number (λ left f. IsOwn f.calendar f.builder) IsInner (λ read. All IsNamed read.checks)
  held = record {
    begins = λ left f x c. begins-inner f.calendar f.builder x c;
    joins = λ left f i x. ends-own f.calendar f.builder i x;
    joins_inner = ends-inner;
    notes = λ l left c f g gs read t x. notes-own (named c) c f.calendar f.builder x;
    notes_inner = notes-inner;
    passes = λ l left c f at t x. x;
    gathers = λ l left c f g gs had read t x are.
        let line : IsOfLine (named_by c) = λ used calendar text.
        line-names l read.among t used calendar (ap (option_and_then named_by) read.content ∙ text) in
        line-named l.number (named c) c f g gs had (⊎_elim (λ same. inl (same, line)) inr (in-calendar f.calendar f.builder x)) are;
    gathers_inner = λ number n c f g gs had x are. line-named number n c f g gs had (inr x) are;
  }

  first : (c : Parts) → map upper c.value ≡ codes "VEVENT" → (path : List Open) → event.path ≡ path →
      IsOwn (begun_frame event.number c path).calendar (begun_frame event.number c path).builder
  first c word [] is = rw word tt
  first c word (o ∷ os) is = rw word (sym (ap innermost is))

pub event-names : (ls : List Placed) → AreInPlace 0 [] ls → (event : Placed) → IsIn event ls → is_event event ≡ true → (read : ParsedFileSeen) →
    (component_seen ls event).read ≡ Ok read → (used : ZoneName) → Contains (map (λ w. w.check) read.checks) (check.Zone used) → names ls used event ≡ true
event-names ls h event i is read e used k =
    let are = held_block ls event (held ls event) h i (left-or (is_event event) (begins_zone event) is)
    (λ from c at. first ls event c (begins-called event (codes "VEVENT") (two-of (in_calendar event || no_open event.path) _ is).1 c at) event.path refl)
    (All-nil (IsNamed ls event)) read e in
    let was = was-mapped (λ (w : LineCheck). w.check) read.checks (check.Zone used) k in
    All-contains (IsNamed ls event) read.checks was.0 are was.1 used was.2
