-- Where lines stand, by the names of the components that are open.
use Rattle.std.proofs.Common.{◌≡◌, ◌≤◌, Bool, true, false, List, [], ◌∷◌, ℕ, refl, ap, ◌∙◌, ◌==◌, ◌&&◌, arith, length, sym}
use Rattle.std.proofs.lemmas.List.{length-reverse}
use Rattle.std.specs.Prelude.{codes, reverse}
use Rattle.std.specs.Str.{bytes_eq}
use Rattle.std.proofs.lemmas.Slice.Eq.{bytes_eq-Decides}
use Rattle.ics_components.specs.Components.{component_of, component_name, is_calendar_context, is_event_context}
use Rattle.ics_components.specs.declared.component.Context.TheVariants as context
use Rattle.ics_components.specs.EventLines.{in_any_event}
use Rattle.ics_components.specs.PlacedLines.{Open, context_of}
use Rattle.ics_components.proofs.NameLemmas.{component_name-of, context-tests}
use Rattle.ics_components.proofs.PartPaths.{deep-no-calendar}

-- texts are compared in either order
pub bytes_eq-back : (a b : List ℕ) → bytes_eq a b ≡ bytes_eq b a
bytes_eq-back [] [] = refl
bytes_eq-back [] (y ∷ ys) = refl
bytes_eq-back (x ∷ xs) [] = refl
bytes_eq-back (x ∷ xs) (y ∷ ys) = let again = bytes_eq-back xs ys in grind (arith, again)

pub component_called : (u : List ℕ) → component_name (component_of u) ≡ u
component_called u = component_name-of u

-- WHERE LINES STAND, by how many components are open.
pub in_calendar_by : (c : Open) → is_calendar_context (context_of (c ∷ [])) ≡ bytes_eq c.name (codes "VCALENDAR")
in_calendar_by c = by_test (bytes_eq c.name (codes "VCALENDAR")) refl
  where
    by_test : (t : Bool) → bytes_eq c.name (codes "VCALENDAR") ≡ t → is_calendar_context (context_of (c ∷ [])) ≡ t
    by_test true e = rw ((bytes_eq-Decides c.name (codes "VCALENDAR")).0 e) refl
    by_test false e = grind (arith, e)

not-both : (a b : Bool) → a ≡ false → (a && b) ≡ false
not-both a b e = grind (arith, e)

pub in_event_by : (c d : Open) →
    is_event_context (context_of (c ∷ d ∷ [])) ≡ (bytes_eq d.name (codes "VCALENDAR") && bytes_eq c.name (codes "VEVENT"))
in_event_by c d =
    (context-tests (context_of (d ∷ [])) c.name).0 ∙ ap (λ t. t && bytes_eq c.name (codes "VEVENT")) (in_calendar_by d)

deep : (ps : List Open) → 2 ≤ length ps → is_calendar_context (context_of ps) ≡ false
deep [] h = absurd (omega (arith, h))
deep (c ∷ []) h = absurd (omega (arith, h))
deep (c ∷ d ∷ ds) h = deep-no-calendar c d ds

pub deep_calendar : (os : List Open) → 2 ≤ length os → is_calendar_context (context_of (reverse os)) ≡ false
deep_calendar os h = deep (reverse os) (rw (length-reverse os) h)

not-two : (ps : List Open) → (length ps == 2) ≡ false → is_event_context (context_of ps) ≡ false
not-two [] h = refl
not-two (c ∷ []) h = (context-tests context.Outside c.name).0
not-two (c ∷ d ∷ []) h = cc
not-two (c ∷ d ∷ e ∷ es) h =
    (context-tests (context_of (d ∷ e ∷ es)) c.name).0 ∙ not-both _ (bytes_eq c.name (codes "VEVENT")) (deep-no-calendar d e es)

pub no_event : (os : List Open) → (length os == 2) ≡ false → is_event_context (context_of (reverse os)) ≡ false
no_event os h = not-two (reverse os) (rw (length-reverse os) h)

-- what is no UID is none of an event
pub never_both : (a b : Bool) → b ≡ false → false ≡ (a && b)
never_both a b e = grind (arith, e)

-- an event of a calendar is an event
flip : (a b : Bool) → (a && b) ≡ (b && a)
flip a b = grind arith

pub any_event : (path : List Open) → is_event_context (context_of path) ≡ true → in_any_event path ≡ true
any_event [] e = cc
any_event (c ∷ []) e = let no = not-two (c ∷ []) refl in cc
any_event (c ∷ d ∷ []) e = flip (bytes_eq c.name (codes "VEVENT")) (bytes_eq d.name (codes "VCALENDAR")) ∙ sym (in_event_by c d) ∙ e
any_event (c ∷ d ∷ f ∷ fs) e =
    let no =
    (context-tests (context_of (d ∷ f ∷ fs)) c.name).0 ∙ not-both _ (bytes_eq c.name (codes "VEVENT")) (deep-no-calendar d f fs) in cc
