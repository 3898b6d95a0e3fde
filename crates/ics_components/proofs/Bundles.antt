-- A pass that keeps, for each open component, the lines directly in it has at each line those that stand beside it.
use Rattle.std.proofs.Common.{◌≡◌, ◌≢◌, ℕ, ◌<◌, Bool, true, false, List, [], ◌∷◌, ◌++◌, refl, sym, ap, ◌∙◌, arith, cond}
use Rattle.std.specs.Prelude.{if◌then◌else◌}
use Rattle.std.specs.List.{All, list_any}
use Rattle.std.proofs.lemmas.Bool.{eq-eqb, ne_eqb}
use Rattle.std.proofs.lemmas.List.{append-nil}
use Rattle.std.proofs.lemmas.List.Elements.{All-nil, All-head, All-tail, All-push, filter-append}
use Rattle.ics_components.specs.Components.{is_zone_context}
use Rattle.ics_components.specs.PlacedLines.{Placed, Open, context_of, in_zone, is_begin, is_end, begins_observance, component, path_behind, innermost}
use Rattle.ics_components.specs.PlacedLines.{lines_in}
use Rattle.ics_components.specs.Observances.{begins_in_zone}
use Rattle.ics_components.proofs.Order.{Falls}

-- An open component, by its BEGIN line and the lines that stand directly in it so far, but for the BEGIN line of the
-- component that is open in it.
pub record Bundle : Type 0 where
  pub begin : Placed
  pub lines : List Placed

-- all lines stand in components that began before line n
abbrev pub Before : ℕ → List Placed → Type 0
Before n ls = All (λ l. innermost l.path < n) ls

pub lines_in-new : (n : ℕ) (before : List Placed) → Before n before → lines_in n before ≡ []
lines_in-new n [] h = refl
lines_in-new n (l ∷ ls) h =
    let less = All-head (λ l. innermost l.path < n) l ls h in
    rw (ne_eqb (innermost l.path) n (λ e. omega (arith, e, less)), lines_in-new n ls (All-tail (λ l. innermost l.path < n) l ls h))

-- the component of a bundle, and those of several
abbrev pub open_of : Bundle → Open
open_of f = record { name = component f.begin; begun = f.begin.number }

abbrev pub opens : List Bundle → List Open
opens [] = []
opens (f ∷ fs) = open_of f ∷ opens fs

-- The component of a bundle began in those of the bundles below it, and the lines stand in it.
pub record IsKept (f : Bundle) (fs : List Bundle) : Type 0 where
  pub less : innermost (opens fs) < f.begin.number
  pub stands : f.begin.path ≡ opens fs
  pub begins : is_begin f.begin ≡ true
  pub places : All (λ l. l.path ≡ opens (f ∷ fs)) f.lines

-- There is a bundle of the lines in each open component, where these lines are still to be added.
abbrev pub Keeps : List Placed → List Placed → List Bundle → Type 0
Keeps before up [] = Unit {0}
Keeps before up (f ∷ fs) = (lines_in f.begin.number before ≡ f.lines ++ up) × IsKept f fs × Keeps before (f.begin ∷ []) fs

-- the lines in the innermost component, or outside all
abbrev pub top_lines : List Placed → List Bundle → List Placed
top_lines before [] = lines_in 0 before
top_lines before (f ∷ fs) = f.lines

pub top_beside : (before : List Placed) (bundles : List Bundle) → Keeps before [] bundles →
    top_lines before bundles ≡ lines_in (innermost (opens bundles)) before
top_beside before [] k = refl
top_beside before (f ∷ fs) k = sym (k.0 ∙ append-nil f.lines)

-- in a time zone an observance begins wherever one is named
zone-lines : (path : List Open) → is_zone_context (context_of path) ≡ true → (ls : List Placed) → All (λ l. l.path ≡ path) ls →
    list_any begins_observance ls ≡ list_any begins_in_zone ls
zone-lines path z [] h = refl
zone-lines path z (l ∷ ls) h =
    let here : in_zone l ≡ true = ap (λ (p : List Open). is_zone_context (context_of p)) (All-head (λ l. l.path ≡ path) l ls h) ∙ z in
    rw (here, zone-lines path z ls (All-tail (λ l. l.path ≡ path) l ls h))

pub zone-beside : (before : List Placed) (bundles : List Bundle) → Keeps before [] bundles → is_zone_context (context_of (opens bundles)) ≡ true →
    list_any begins_observance (lines_in (innermost (opens bundles)) before) ≡ list_any begins_in_zone (lines_in (innermost (opens bundles)) before)
zone-beside before [] k z = cc
zone-beside before (f ∷ fs) k z = rw (k.0, append-nil f.lines) (zone-lines (opens (f ∷ fs)) z f.lines k.1.places)

pub falls : (before up : List Placed) (bundles : List Bundle) → Keeps before up bundles → Falls (opens bundles)
falls before up [] k = tt
falls before up (f ∷ fs) k = (k.1.less, falls before (f.begin ∷ []) fs k.2)

abbrev pub add_line : Placed → List Bundle → List Bundle
add_line l [] = []
add_line l (f ∷ fs) = record { begin = f.begin; lines = f.lines ++ l ∷ [] } ∷ fs

-- an END closes the innermost bundle
abbrev pub close : List Bundle → List Bundle
close [] = []
close (f ∷ fs) = add_line f.begin fs

abbrev pub bundles_behind : Placed → List Bundle → List Bundle
bundles_behind l bundles =
    if is_begin l then record { begin = l; lines = [] } ∷ bundles
    else if is_end l then close bundles
    else add_line l bundles

pub opens-behind : (l : Placed) (bundles : List Bundle) → opens bundles ≡ l.path → opens (bundles_behind l bundles) ≡ path_behind l
opens-behind l bundles at = grind arith

-- a line is added to the innermost bundle
joined : (before : List Placed) (l : Placed) (bundles : List Bundle) → opens bundles ≡ l.path → Keeps before (l ∷ []) bundles →
    Keeps before [] (add_line l bundles)
joined before l [] e k = tt
joined before l (f ∷ fs) e k =
    let kept : IsKept f fs = k.1 in
    let places = All-push (λ l. l.path ≡ opens (f ∷ fs)) f.lines l kept.places (sym e) in
    (k.0 ∙ sym (append-nil (f.lines ++ l ∷ [])), record { less = kept.less; stands = kept.stands; begins = kept.begins; places = places }, k.2)

module _ (before : List Placed) (l : Placed) where
  -- a line deeper in leaves the bundles below alone
  below : (up : List Placed) (bundles : List Bundle) → innermost (opens bundles) < innermost l.path → Keeps before up bundles →
      Keeps (before ++ l ∷ []) up bundles
  below up [] less k = tt
  below up (f ∷ fs) less k =
      let ne : innermost l.path ≢ f.begin.number = λ e. omega (arith, e, less) in
      (simp (filter-append, ne_eqb (innermost l.path) f.begin.number ne, append-nil) k.0, k.1, below (f.begin ∷ []) fs (omega (arith, k.1.less, less)) k.2)

  -- a line is still to be added to the innermost bundle
  here : (bundles : List Bundle) → opens bundles ≡ l.path → Keeps before [] bundles → Keeps (before ++ l ∷ []) (l ∷ []) bundles
  here [] e k = tt
  here (f ∷ fs) e k =
      let at : innermost l.path ≡ f.begin.number = ap innermost (sym e) in (
        simp (filter-append, eq-eqb (innermost l.path) f.begin.number at, k.0, append-nil),
        k.1,
        below (f.begin ∷ []) fs (omega (arith, at, k.1.less)) k.2,
      )

  closed : (bundles : List Bundle) → opens bundles ≡ l.path → Keeps before [] bundles → Keeps (before ++ l ∷ []) [] (close bundles)
  closed [] e k = tt
  closed (f ∷ fs) e k =
      let at : innermost l.path ≡ f.begin.number = ap innermost (sym e) in
      joined (before ++ l ∷ []) f.begin fs (sym k.1.stands) (below (f.begin ∷ []) fs (omega (arith, at, k.1.less)) k.2)

  -- a line keeps the bundles
  pub keeps : (bundles : List Bundle) → Before l.number before → innermost l.path < l.number →
      opens bundles ≡ l.path → Keeps before [] bundles → Keeps (before ++ l ∷ []) [] (bundles_behind l bundles)
  keeps bundles h less at k = by_kind (is_begin l) (is_end l) refl
    where
      by_kind : (b e : Bool) → is_begin l ≡ b →
          Keeps (before ++ l ∷ []) [] (cond b (record { begin = l; lines = [] } ∷ bundles) (cond e (close bundles) (add_line l bundles)))
      by_kind true e b = (
        lines_in-new l.number (before ++ l ∷ []) (All-push (λ k. innermost k.path < l.number) before l h less),
        record {
          less = rw at less;
          stands = sym at;
          begins = b;
          places = All-nil (λ k. k.path ≡ opens (record { begin = l; lines = [] } ∷ bundles));
        },
        here bundles at k,
      )
      by_kind false true b = closed bundles at k
      by_kind false false b = joined (before ++ l ∷ []) l bundles at (here bundles at k)
