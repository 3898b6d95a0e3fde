-- Where events and time zones begin and end, by the components that are open.
use Rattle.std.proofs.Common.{◌≡◌, ℕ, ◌<◌, Bool, true, false, ◌&&◌, ◌||◌, ◌==◌, List, [], ◌∷◌, drop, refl, sym, ap, ◌∙◌, arith, cond}
use Rattle.std.proofs.Common.{Option, Some, None}
use Rattle.std.specs.Prelude.{codes}
use Rattle.std.specs.List.{list_any}
use Rattle.std.specs.Option.{option_or}
use Rattle.std.specs.Str.{bytes_eq}
use Rattle.std.proofs.lemmas.Bool.{ne_eqb}
use Rattle.std.proofs.lemmas.Bool.Decides.{nat_tests}
use Rattle.std.proofs.lemmas.Slice.Eq.{bytes_eq-Decides}
use Rattle.ics_components.specs.declared.component.Context.{Context}
use Rattle.ics_components.specs.declared.component.Context.TheVariants as context
use Rattle.ics_components.specs.declared.component.Component.{Component}
use Rattle.ics_components.specs.Components.{component_of, context_in, is_calendar_context}
use Rattle.ics_components.specs.FirstFault.{no_open}
use Rattle.ics_components.specs.PlacedLines.{Placed, Open, component, context_of, innermost, is_begin}
use Rattle.ics_components.specs.Parted.{begins_part, is_part, part_in}
use Rattle.ics_components.proofs.NameLemmas.{context-in-outside}
use Rattle.ics_components.proofs.Order.{Absent, Falls, below}

-- a calendar is in no component
pub calendar-outside : (q : Context) (c : Component) → is_calendar_context (context_in q c) ≡ true → q ≡ context.Outside
calendar-outside q c e = grind arith

pub deep-no-calendar : (c d : Open) (ds : List Open) → is_calendar_context (context_of (c ∷ d ∷ ds)) ≡ false
deep-no-calendar c d ds = by_test (is_calendar_context (context_of (c ∷ d ∷ ds))) refl
  where
    by_test : (t : Bool) → is_calendar_context (context_of (c ∷ d ∷ ds)) ≡ t → t ≡ false
    by_test false e = refl
    by_test true e =
        absurd (context-in-outside (context_of ds) (component_of d.name) (calendar-outside (context_of (d ∷ ds)) (component_of c.name) e))

-- an event or a time zone begins by its name
begun-by : (path : List Open) (b : Bool) (name : List ℕ) →
    (((is_calendar_context (context_of path) || no_open path) && (b && bytes_eq name (codes "VEVENT")))
    || (is_calendar_context (context_of path) && (b && bytes_eq name (codes "VTIMEZONE"))))
    ≡ (b && is_part path name)
begun-by [] b name = grind arith
begun-by (c ∷ cs) b name = grind arith

pub begins-by : (l : Placed) → begins_part l ≡ (is_begin l && is_part l.path (component l))
begins-by l = begun-by l.path (is_begin l) (component l)

-- WITHIN AN EVENT OR A TIME ZONE none begins.
outermost-part : (c : Open) (b : ℕ) → part_in (c ∷ []) ≡ Some b → is_calendar_context (context_of (c ∷ [])) ≡ false
outermost-part c b = by_test (bytes_eq c.name (codes "VEVENT")) refl
  where
    by_test : (t : Bool) → bytes_eq c.name (codes "VEVENT") ≡ t → cond t (Some c.begun) None ≡ Some b → is_calendar_context (context_of (c ∷ [])) ≡ false
    by_test true e h = rw ((bytes_eq-Decides c.name (codes "VEVENT")).0 e) refl
    by_test false e h = cc

pub in-part : (path : List Open) (b : ℕ) → part_in path ≡ Some b → (is_calendar_context (context_of path) ≡ false) × (no_open path ≡ false)
in-part [] b h = cc
in-part (c ∷ []) b h = (outermost-part c b h, refl)
in-part (c ∷ d ∷ ds) b h = (deep-no-calendar c d ds, refl)

pub none-begins : (path : List Open) (b : ℕ) → part_in path ≡ Some b → (name : List ℕ) → is_part path name ≡ false
none-begins [] b h name = cc
none-begins (c ∷ cs) b h name = rw ((in-part (c ∷ cs) b h).0) refl

-- it is open
pub part-open : (path : List Open) (b : ℕ) → part_in path ≡ Some b → list_any (λ c. c.begun == b) path ≡ true
part-open [] b h = cc
part-open (c ∷ cs) b h = by_rest (part_in cs) refl (part-open cs b) h
  where
    by_rest : (o : Option ℕ) → part_in cs ≡ o → (part_in cs ≡ Some b → list_any (λ c. c.begun == b) cs ≡ true) →
        option_or o (cond (is_part cs c.name) (Some c.begun) None) ≡ Some b → ((c.begun == b) || list_any (λ c. c.begun == b) cs) ≡ true
    by_rest (Some k) e later h = let again = later (e ∙ h) in grind (arith, again)
    by_rest None e later h = grind (arith, nat_tests, h)

-- what is not among the open ones
pub absent-any : (b : ℕ) (path : List Open) → Absent b path → list_any (λ c. c.begun == b) path ≡ false
absent-any b [] h = refl
absent-any b (c ∷ cs) h = rw (ne_eqb c.begun b h.0) (absent-any b cs h.1)

pub absent-inner : (b : ℕ) (path : List Open) → 0 < b → Absent b path → (innermost path == b) ≡ false
absent-inner b [] some h = ne_eqb 0 b (λ e. omega (arith, e, some))
absent-inner b (c ∷ cs) some h = ne_eqb c.begun b h.0

-- BEHIND AN END.
pub closed-none : (path : List Open) → part_in path ≡ None → part_in (drop 1 path) ≡ None
closed-none [] h = refl
closed-none (c ∷ cs) h = by_rest (part_in cs) refl h
  where
    by_rest : (o : Option ℕ) → part_in cs ≡ o → option_or o (cond (is_part cs c.name) (Some c.begun) None) ≡ None → part_in cs ≡ None
    by_rest (Some k) e h = cc
    by_rest None e h = e

pub closed-inner : (path : List Open) (b : ℕ) → part_in path ≡ Some b → (innermost path == b) ≡ false → part_in (drop 1 path) ≡ Some b
closed-inner [] b h ne = cc
closed-inner (c ∷ cs) b h ne = by_rest (part_in cs) refl h ne
  where
    by_rest : (o : Option ℕ) → part_in cs ≡ o → option_or o (cond (is_part cs c.name) (Some c.begun) None) ≡ Some b → (c.begun == b) ≡ false →
        part_in cs ≡ Some b
    by_rest (Some k) e h ne = e ∙ h
    by_rest None e h ne = by_name (is_part cs c.name) h
      where
        by_name : (t : Bool) → cond t (Some c.begun) None ≡ Some b → part_in cs ≡ Some b
        by_name true h = grind (arith, nat_tests, h, ne)
        by_name false h = cc

pub closed-part : (path : List Open) (b : ℕ) → Falls path → part_in path ≡ Some b → (innermost path == b) ≡ true →
    (part_in (drop 1 path) ≡ None) × Absent b (drop 1 path)
closed-part [] b f h is = cc
closed-part (c ∷ cs) b f h is = by_rest (part_in cs) refl
  where
    same : c.begun ≡ b
    same = grind (arith, nat_tests, is)

    out : Absent b cs
    out = below b cs f.1 (omega (arith, f.0, same))

    by_rest : (o : Option ℕ) → part_in cs ≡ o → (part_in cs ≡ None) × Absent b cs
    by_rest None e = (e, out)
    by_rest (Some k) e =
        let inner : k ≡ b = some-is k (h-of e) in
        let here = part-open cs b (e ∙ ap Some inner) in
        let gone = absent-any b cs out in
        cc
      where
        h-of : part_in cs ≡ Some k → Some k ≡ Some b
        h-of e = sym (ap (λ o. option_or o (cond (is_part cs c.name) (Some c.begun) None)) e) ∙ h

        some-is : (k : ℕ) → Some k ≡ Some b → k ≡ b
        some-is k e = cc
