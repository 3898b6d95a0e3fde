-- What a name of a property or a component stands for.
use Rattle.std.proofs.Common.{◌≡◌, ◌≢◌, ℕ, Bool, true, false, ◌&&◌, ◌||◌, List, [], ◌∷◌, refl, rules, arith}
use Rattle.std.specs.Prelude.{codes}
use Rattle.std.specs.List.{AllByRecursion, list_any}
use Rattle.std.specs.Str.{bytes_eq}
use Rattle.std.proofs.lemmas.Bool.{cond_both}
use Rattle.std.proofs.lemmas.Slice.Eq.{bytes_eq-Decides}
use Rattle.ics_components.specs.declared.name.Name.{Name}
use Rattle.ics_components.specs.declared.name.Name.TheVariants as name
use Rattle.ics_components.specs.declared.component.Component.{Component}
use Rattle.ics_components.specs.declared.component.Component.TheVariants as component
use Rattle.ics_components.specs.Names.{named_in, same_name}
use Rattle.ics_components.specs.declared.component.Context.{Context}
use Rattle.ics_components.specs.declared.component.Context.TheVariants as context
use Rattle.ics_components.specs.Components.{component_of, component_name, context_in, is_calendar_context, is_event_context, is_zone_context}
use Rattle.ics_components.specs.Components.{is_observance_context}

-- the name is none of the words of a table
abbrev pub IsUnknown : {X : Type 0} → List (List ℕ × X) → List ℕ → Type 0
IsUnknown table u = (w : List ℕ) → list_any (λ n. bytes_eq w n.0) table ≡ true → bytes_eq u w ≡ false

-- a name is a word of the table, or none
told : {X : Type 0} (T : X → Type 0) (other : X) (u : List ℕ) (table : List (List ℕ × X)) → AllByRecursion (λ n. u ≡ n.0 → T n.1) table →
    (IsUnknown table u → T other) → T (named_in table other u)
told T other u [] h k = k (λ w e. cc)
told T other u (n ∷ ns) h k =
    cond_both (bytes_eq u n.0) n.1 (named_in ns other u) T (λ e. h.0 ((bytes_eq-Decides u n.0).0 e))
    (λ e. told T other u ns h.1 (λ g. k (λ w. by_word e g w (bytes_eq w n.0) refl)))
  where
    by_word : bytes_eq u n.0 ≡ false → IsUnknown ns u → (w : List ℕ) (t : Bool) → bytes_eq w n.0 ≡ t →
        (t || list_any (λ n. bytes_eq w n.0) ns) ≡ true → bytes_eq u w ≡ false
    by_word e g w true f c = rw ((bytes_eq-Decides w n.0).0 f) e
    by_word e g w false f c = g w c

-- a name that is the same as another is that
pub begin-is : (n : Name) → same_name n name.Begin ≡ true → n ≡ name.Begin
begin-is name.Begin e = refl
begin-is _ e = cc

pub end-is : (n : Name) → same_name n name.End ≡ true → n ≡ name.End
end-is name.End e = refl
end-is _ e = cc

-- the components that a file is read for
abbrev pub components : List (List ℕ × Component)
components =
    (codes "VCALENDAR", component.Calendar) ∷ (codes "VEVENT", component.Event) ∷ (codes "VTIMEZONE", component.Zone) ∷ (codes "STANDARD", component.Standard)
    ∷ (codes "DAYLIGHT", component.Daylight) ∷ []

abbrev pub TellsComponent : List ℕ → Component → Type 0
TellsComponent u (component.Other w) = IsUnknown components u × (w ≡ u)
TellsComponent u c = u ≡ component_name c

pub tells_component : (u : List ℕ) → TellsComponent u (component_of u)
tells_component u = told (TellsComponent u) (component.Other u) u components (search rules) (λ none. (none, refl))

pub component_name-of : (u : List ℕ) → component_name (component_of u) ≡ u
component_name-of u = told (λ c. component_name c ≡ u) (component.Other u) u components (search rules) (λ none. refl)

-- no component stands outside all components
pub context-in-outside : (q : Context) (c : Component) → context_in q c ≢ context.Outside
context-in-outside q c e = grind arith

-- a component begins where its lines are read exactly by its name
abbrev pub Tested : Context → List ℕ → Component → Type 0
Tested q w c =
    (is_event_context (context_in q c) ≡ (is_calendar_context q && bytes_eq w (codes "VEVENT")))
    × (is_zone_context (context_in q c) ≡ (is_calendar_context q && bytes_eq w (codes "VTIMEZONE")))
    × (is_observance_context (context_in q c) ≡ (is_zone_context q && (bytes_eq w (codes "STANDARD") || bytes_eq w (codes "DAYLIGHT"))))

pub context-tests : (q : Context) (w : List ℕ) → Tested q w (component_of w)
context-tests q w = by_component (component_of w) (tells_component w)
  where
    by_component : (c : Component) → TellsComponent w c → Tested q w c
    by_component c e = (grind arith, grind arith, grind arith)
