-- What ends on the lines, and that in a file without faults the events and the time zones end in the order in which they begin.
use Rattle.std.proofs.Common.{◌≡◌, ℕ, true, false, ◌&&◌, List, [], ◌∷◌, ◌++◌, refl, sym, ap, ◌∙◌, map, filter, arith, Some}
use Rattle.std.specs.Prelude.{codes, not}
use Rattle.std.specs.Str.{bytes_eq}
use Rattle.std.proofs.lemmas.Bool.{and_parts, not-false}
use Rattle.ics_components.specs.declared.component.Component.{Component}
use Rattle.ics_components.specs.declared.component.Context.{Context}
use Rattle.ics_components.specs.Components.{component_of, context_in, is_calendar_context, is_event_context, is_zone_context}
use Rattle.ics_components.specs.PlacedLines.{Placed, Open, name_on, context_of, component, calendar_of, begins, lines_in, named, is_end, closes}
use Rattle.ics_components.specs.PlacedLines.{begins_event}
use Rattle.ics_components.specs.Builders.{zone_ended}
use Rattle.ics_components.proofs.NameLemmas.{context-in-outside, context-tests}
use Rattle.ics_components.proofs.Order.{open_as, IsSort, Sort, inside, begun, ended_as}
use Rattle.ics_components.specs.SecondRound.{zone_named}
use Rattle.ics_components.specs.Faults.{first_text}
use Rattle.ics_components.specs.Observances.{begins_zone, name_by}
use Rattle.ics_components.proofs.Table.{parts, collected_of, zone_of, frame_of}
use Rattle.ics_components.specs.declared.component.Context.TheVariants as context
use Rattle.ics_components.specs.declared.name.Name.TheVariants as name
use Rattle.ics_text.specs.Unfolded.{Line}
use Rattle.ics_text.specs.ContentLines.{Parts}
use Rattle.ics_components.specs.declared.name.Name.{Name}
use Rattle.ics_components.specs.declared.parsed_file.CalendarEvent.{CalendarEvent}
use Rattle.ics_components.specs.declared.parsed_file.CalendarZone.{CalendarZone}
use Rattle.ics_components.specs.ParsedFiles.{zones_of_end, events_of_end}
use Rattle.ics_components.specs.Lines.{end_in}
use Rattle.ics_components.proofs.Frames.{with, builder-end}

-- THE COMPONENTS that are gathered: events and time zones, in a file of all these lines.
abbrev pub events : Sort CalendarEvent
events = record { stands_at = is_event_context; begins = begins_event; by = λ path own. record { calendar = calendar_of path; fields = collected_of own } }

abbrev pub zones : List Placed → Sort CalendarZone
zones whole = record { stands_at = is_zone_context; begins = begins_zone; by = λ path own. zone_ended (calendar_of path) (zone_of (parts whole own) own) }

-- An END without a fault matches.
abbrev pub IsMatched : Placed → Type 0
IsMatched l = (is_end l && not (closes l.path (component l))) ≡ false

-- WHAT ENDS on a line, picked as its sort says.
module _ (whole : List Placed) (line : Line) (v : Parts) (ls : List Placed) where
  abbrev Picked : Name → List Open → Type 0
  Picked n path =
      (events_of_end (end_in n (frame_of whole path ls)) ≡ ended_as events ls (with line path (Some v)))
      × (zones_of_end (end_in n (frame_of whole path ls)) ≡ ended_as (zones whole) ls (with line path (Some v)))

  pub picked-same : (path : List Open) → IsMatched (with line path (Some v)) → Picked (named v) path
  unfolding name_on
  picked-same path m = by_name (named v) path refl m
    where
      by_name : (n : Name) (path : List Open) → name_on (Some v) ≡ n → IsMatched (with line path (Some v)) →
          Picked n path
      by_name name.End [] e m = let never = rw e at m in absurd (cc)
      by_name name.End (c ∷ cs) e m = let closes = not-false _ (rw e at m) in rw (e, closes) (grind arith, grind arith)
      by_name _ path e m = rw e (refl, refl)

-- only a calendar holds events, and it stands in none
pub calendar-from : (q : Context) (c : Component) → is_calendar_context (context_in q c) ≡ true → q ≡ context.Outside
calendar-from q c e = grind arith

-- a kind of components with one name that begin directly in a calendar
module _ {X : Type 0} (s : Sort X) (word : List ℕ)
    (inside_at : (q : Context) (w : List ℕ) → s.stands_at (context_in q (component_of w)) ≡ (is_calendar_context q && bytes_eq w word)) where
  -- a calendar stands in nothing
  calendar-holds : (whole : List Placed) (path : List Open) → is_calendar_context (context_of path) ≡ true → open_as s whole path ≡ []
  calendar-holds whole [] e = refl
  calendar-holds whole (c ∷ []) e = rw (inside_at context.Outside c.name) refl
  calendar-holds whole (c ∷ d ∷ ds) e =
      absurd (context-in-outside (context_of ds) (component_of d.name) (calendar-from (context_of (d ∷ ds)) (component_of c.name) e))

  in-calendar : ((l : Placed) → s.begins l ≡ (is_calendar_context (context_of l.path) && begins word l)) →
      ((path : List Open) (ls : List Placed) (l : Placed) → name_on l.content ≡ name.End → s.by path (ls ++ l ∷ []) ≡ s.by path ls) → IsSort s
  in-calendar here at_end = record {
    starts = λ l. rw (here l, inside_at (context_of l.path) (component l)) (grind arith);
    alone = λ whole l e. calendar-holds whole l.path (and_parts _ _ (sym (inside_at (context_of l.path) (component l)) ∙ e)).0;
    ends = at_end;
  }

pub events-are : IsSort events
events-are =
    in-calendar events (codes "VEVENT") (λ q w. (context-tests q w).0) (λ l. refl)
    (λ path ls l e. let same = builder-end [] ls context.Event l e in cc)

pub zones-are : (whole : List Placed) → IsSort (zones whole)
zones-are whole =
    in-calendar (zones whole) (codes "VTIMEZONE") (λ q w. (context-tests q w).1) (λ l. refl)
    (λ path ls l e. let same = builder-end whole ls context.Zone l e in cc)

-- what begins directly in a calendar belongs to that
pub calendar-inside : (l : Placed) → is_calendar_context (context_of l.path) ≡ true → calendar_of (inside l) ≡ calendar_of l.path
calendar-inside l e = grind arith

-- what is read of the components that begin on lines, where it is the same of each
pub begun-same : {X Y : Type 0} (s : Sort X) (whole : List Placed) (f : X → Y) (g : Placed → Y) →
    ((l : Placed) → s.begins l ≡ true → f (s.by (inside l) (lines_in l.number whole)) ≡ g l) → (ls : List Placed) →
    map f (begun s whole ls) ≡ map g (filter s.begins ls)
begun-same s whole f g h [] = refl
begun-same s whole f g h (l ∷ ls) = let again = begun-same s whole f g h ls in let here = h l in grind (arith, again, here)

-- the names of the zones
pub names-begun : (whole ls : List Placed) → map (name_by whole) (filter begins_zone ls) ≡ map (λ z. z.name) (begun (zones whole) whole ls)
names-begun whole ls =
    sym (begun-same (zones whole) whole (λ z. z.name) (name_by whole)
    (λ l e. ap (λ k. zone_named k (first_text name.Tzid (lines_in l.number whole))) (calendar-inside l (and_parts _ _ e).0)) ls)
