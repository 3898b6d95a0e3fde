-- A time zone gathers no events and no checks, and an event no time zones.
use Rattle.std.proofs.Common.{◌≡◌, ℕ, true, ◌&&◌, ◌||◌, List, [], ◌∷◌, map, refl, sym, ap, ◌∙◌, Some, ⊎_elim}
use Rattle.std.specs.Prelude.{codes}
use Rattle.std.specs.Str.{bytes_eq}
use Rattle.std.proofs.lemmas.List.{append-nil}
use Rattle.std.proofs.lemmas.Slice.Eq.{bytes_eq-Decides}
use Rattle.ics_text.specs.Bytes.{upper}
use Rattle.ics_text.specs.ContentLines.{Parts}
use Rattle.ics_components.specs.declared.builder.Builder.{Builder}
use Rattle.ics_components.specs.declared.builder.Builder.TheVariants as builder
use Rattle.ics_components.specs.declared.component.Component.{Component}
use Rattle.ics_components.specs.declared.component.Component.TheVariants as component
use Rattle.ics_components.specs.declared.frame.Frame.{Frame}
use Rattle.ics_components.specs.declared.name.Name.{Name}
use Rattle.ics_components.specs.declared.name.Name.TheVariants as name
use Rattle.ics_components.specs.declared.parsed_file.CalendarZone.{CalendarZone}
use Rattle.ics_components.specs.Builders.{builder_at}
use Rattle.ics_components.specs.Components.{context_in, is_calendar_context}
use Rattle.ics_components.specs.EventLines.{is_event}
use Rattle.ics_components.specs.FirstFault.{no_open}
use Rattle.ics_components.specs.Lines.{builder_note, context_at, joined, passing}
use Rattle.ics_components.specs.ParsedFileSeen.{ParsedFileSeen}
use Rattle.ics_components.specs.ParsedFiles.{and_line, nothing_parsed}
use Rattle.ics_components.specs.Parted.{AreInPlace, Reads, block_read, gathered_in}
use Rattle.ics_components.specs.Observances.{begins_zone}
use Rattle.ics_components.specs.PlacedLines.{Open, Placed, component, context_of, in_calendar, is_begin, named}
use Rattle.ics_components.proofs.BlockHolds.{IsHeld, begun_frame, held_block}
use Rattle.ics_components.proofs.ItemFaults.{IsIn}
use Rattle.ics_components.proofs.RestFaults.{left-or, right-or, two-of}

-- KINDS of components that what is open within one has, and a part of what is gathered that lines in them leave as it is.
record IsKept {X : Type 0} (Kind : Builder → Type 0) (part : ParsedFileSeen → X) : Type 0 where
  begins : (b : Builder) → Kind b → (c : Component) → Kind (builder_at [] [] (context_in (context_at b) c))
  ends : (g b : Builder) → Kind g → Kind (joined g b)
  notes : (n : Name) (c : Parts) (b : Builder) → Kind b → Kind (builder_note n c b)
  same : (number : ℕ) (n : Name) (c : Parts) (f : Frame) → Kind f.builder → (had : ParsedFileSeen) →
      part (and_line number (passing n c (f ∷ [])) had) ≡ part had

kept_held : {X : Type 0} (Kind : Builder → Type 0) (part : ParsedFileSeen → X) → IsKept Kind part → (ls : List Placed) (b : ℕ) →
    IsHeld ls b (λ left f. Kind f.builder) Kind (λ more. part more ≡ part nothing_parsed)
kept_held Kind part is ls b = record {
  begins = λ left f k c. is.begins f.builder (⊎_elim (λ x. x) (λ x. x) k) c;
  joins = λ left f i k. is.ends f.builder i k;
  joins_inner = λ g i k. is.ends g i k;
  notes = λ l left c f g gs read t k. is.notes (named c) c f.builder k;
  notes_inner = λ n c g k. is.notes n c g k;
  passes = λ l left c f at t k. k;
  gathers = λ l left c f g gs had read t k e. is.same l.number (named c) c f k had ∙ e;
  gathers_inner = λ number n c f g gs had k e. is.same number n c f k had ∙ e;
}

-- IN A TIME ZONE no events and no checks are gathered.
abbrev pub InZone : Builder → Type 0
InZone (builder.Zone had) = Unit {0}
InZone (builder.Observance had) = Unit {0}
InZone builder.Elsewhere = Unit {0}
InZone _ = ⊥

abbrev pub no_zones : ParsedFileSeen → ParsedFileSeen
no_zones had = record had { zones = [] }

pub begins-zone : (b : Builder) → InZone b → (c : Component) → InZone (builder_at [] [] (context_in (context_at b) c))
begins-zone (builder.Zone had) k component.Standard = tt
begins-zone (builder.Zone had) k component.Daylight = tt
begins-zone (builder.Zone had) k _ = tt
begins-zone (builder.Observance had) k c = tt
begins-zone builder.Elsewhere k c = tt
begins-zone _ k c = absurd k

pub ends-zone : (g b : Builder) → InZone g → InZone (joined g b)
ends-zone (builder.Zone had) (builder.Observance other) k = tt
ends-zone (builder.Zone had) _ k = tt
ends-zone (builder.Observance had) b k = tt
ends-zone builder.Elsewhere b k = tt
ends-zone _ b k = absurd k

pub notes-zone : (n : Name) (c : Parts) (b : Builder) → InZone b → InZone (builder_note n c b)
notes-zone n c (builder.Zone had) k = tt
notes-zone n c (builder.Observance had) k = tt
notes-zone n c builder.Elsewhere k = tt
notes-zone n c _ k = absurd k

pub same-zone : (number : ℕ) (n : Name) (c : Parts) (f : Frame) → InZone f.builder → (had : ParsedFileSeen) →
    no_zones (and_line number (passing n c (f ∷ [])) had) ≡ no_zones had
same-zone number n c f k had = by_builder f.builder k n
  where
    by_builder : (b : Builder) → InZone b → (n : Name) → no_zones (and_line number (passing n c (record f { builder = b } ∷ [])) had) ≡ no_zones had
    by_builder (builder.Zone z) k name.Begin = simp append-nil
    by_builder (builder.Zone z) k name.End = simp append-nil
    by_builder (builder.Zone z) k _ = simp append-nil
    by_builder (builder.Observance z) k name.Begin = simp append-nil
    by_builder (builder.Observance z) k name.End = simp append-nil
    by_builder (builder.Observance z) k _ = simp append-nil
    by_builder builder.Elsewhere k name.Begin = simp append-nil
    by_builder builder.Elsewhere k name.End = simp append-nil
    by_builder builder.Elsewhere k _ = simp append-nil
    by_builder _ k n = absurd k

zone_kept : IsKept InZone no_zones
zone_kept = record { begins = begins-zone; ends = ends-zone; notes = notes-zone; same = same-zone }

-- IN AN EVENT no time zones are gathered.
abbrev InEvent : Builder → Type 0
InEvent (builder.Event had) = Unit {0}
InEvent builder.Elsewhere = Unit {0}
InEvent _ = ⊥

begins-event : (b : Builder) → InEvent b → (c : Component) → InEvent (builder_at [] [] (context_in (context_at b) c))
begins-event (builder.Event had) k c = tt
begins-event builder.Elsewhere k c = tt
begins-event _ k c = absurd k

ends-event : (g b : Builder) → InEvent g → InEvent (joined g b)
ends-event (builder.Event had) b k = tt
ends-event builder.Elsewhere b k = tt
ends-event _ b k = absurd k

notes-event : (n : Name) (c : Parts) (b : Builder) → InEvent b → InEvent (builder_note n c b)
notes-event n c (builder.Event had) k = tt
notes-event n c builder.Elsewhere k = tt
notes-event n c _ k = absurd k

abbrev zones_in : ParsedFileSeen → List CalendarZone
zones_in had = had.zones

same-event : (number : ℕ) (n : Name) (c : Parts) (f : Frame) → InEvent f.builder → (had : ParsedFileSeen) →
    zones_in (and_line number (passing n c (f ∷ [])) had) ≡ zones_in had
same-event number n c f k had = by_builder f.builder k n
  where
    by_builder : (b : Builder) → InEvent b → (n : Name) → zones_in (and_line number (passing n c (record f { builder = b } ∷ [])) had) ≡ zones_in had
    by_builder (builder.Event e) k name.Begin = simp append-nil
    by_builder (builder.Event e) k name.End = simp append-nil
    by_builder (builder.Event e) k _ = simp append-nil
    by_builder builder.Elsewhere k name.Begin = simp append-nil
    by_builder builder.Elsewhere k name.End = simp append-nil
    by_builder builder.Elsewhere k _ = simp append-nil
    by_builder _ k n = absurd k

event_kept : IsKept InEvent zones_in
event_kept = record { begins = begins-event; ends = ends-event; notes = notes-event; same = same-event }

-- what begins on a line is named in its value
value-is : (l : Placed) (c : Parts) → l.content ≡ Some c → component l ≡ map upper c.value
value-is l c e = rw e refl

pub begins-called : (l : Placed) (word : List ℕ) → (is_begin l && bytes_eq (component l) word) ≡ true → (c : Parts) → l.content ≡ Some c →
    map upper c.value ≡ word
begins-called l word e c at = sym (value-is l c at) ∙ (bytes_eq-Decides (component l) word).0 (two-of (is_begin l) (bytes_eq (component l) word) e).1

zone-kind : (l : Placed) → begins_zone l ≡ true → (c : Parts) → l.content ≡ Some c → InZone (begun_frame l.number c l.path).builder
zone-kind l z c at =
    let both = two-of (in_calendar l) (is_begin l && bytes_eq (component l) (codes "VTIMEZONE")) z in
    by_path l.path both.0 (begins-called l (codes "VTIMEZONE") both.1 c at)
  where
    by_path : (path : List Open) → is_calendar_context (context_of path) ≡ true → map upper c.value ≡ codes "VTIMEZONE" →
        InZone (begun_frame l.number c path).builder
    by_path [] i e = cc
    by_path (o ∷ os) i e = rw e tt

event-kind : (l : Placed) → is_event l ≡ true → (c : Parts) → l.content ≡ Some c → InEvent (begun_frame l.number c l.path).builder
event-kind l z c at =
    let both = two-of (in_calendar l || no_open l.path) (is_begin l && bytes_eq (component l) (codes "VEVENT")) z in
    by_path l.path (begins-called l (codes "VEVENT") both.1 c at)
  where
    by_path : (path : List Open) → map upper c.value ≡ codes "VEVENT" → InEvent (begun_frame l.number c path).builder
    by_path [] e = rw e tt
    by_path (o ∷ os) e = rw e tt

-- WHAT A TIME ZONE GATHERS, and what an event does not.
pub zone_gathers : (ls : List Placed) → AreInPlace 0 [] ls → (z : Placed) → IsIn z ls → begins_zone z ≡ true → (last : List Frame) (more : ParsedFileSeen) →
    block_read ls z ≡ Reads last more → (more.events ≡ []) × (more.checks ≡ [])
zone_gathers ls h z i t last more e =
    let none : no_zones more ≡ no_zones nothing_parsed =
    held_block ls z (kept_held InZone no_zones zone_kept ls z.number) h i (right-or (is_event z) (begins_zone z) t) (λ from c at. zone-kind z t c at) refl more
    (ap gathered_in e) in
    (ap (λ (x : ParsedFileSeen). x.events) none, ap (λ (x : ParsedFileSeen). x.checks) none)

pub event_gathers : (ls : List Placed) → AreInPlace 0 [] ls → (v : Placed) → IsIn v ls → is_event v ≡ true → (last : List Frame) (more : ParsedFileSeen) →
    block_read ls v ≡ Reads last more → more.zones ≡ []
event_gathers ls h v i t last more e =
    held_block ls v (kept_held InEvent zones_in event_kept ls v.number) h i (left-or (is_event v) (begins_zone v) t) (λ from c at. event-kind v t c at) refl
    more (ap gathered_in e)
