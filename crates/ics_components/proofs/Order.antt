-- Where the lines of a component stand, and in which order components begin and end in a file without faults.
use Rattle.std.proofs.Common.{◌≡◌, List, [], ◌∷◌, ◌++◌, refl, subst, Some, ◌≢◌, ℕ, ◌<◌, ◌≤◌, Bool, true, false, ◌==◌, drop, ap, ◌∙◌, arith, cond}
use Rattle.std.proofs.Common.{◌&&◌, map, filter, sym, append_assoc, Option, None}
use Rattle.std.proofs.lemmas.Bool.{cond_both, eq-eqb, ne_eqb, not-false}
use Rattle.std.proofs.lemmas.List.Elements.{filter-append}
use Rattle.std.specs.Prelude.{find, not}
use Rattle.ics_text.specs.Unfolded.{Line, Rises}
use Rattle.ics_text.specs.ContentLines.{content_of}
use Rattle.ics_components.specs.PlacedLines.{Placed, Open, is_begin, is_end, component, path_behind, placed_from, innermost, lines_in, name_on}
use Rattle.ics_components.specs.PlacedLines.{context_of, is_closing, beside, closes}
use Rattle.ics_components.specs.FirstFault.{last_of, Fault, found, least_on, first_from, fault_at_end}
use Rattle.ics_components.specs.declared.component.Context.{Context}
use Rattle.ics_components.specs.declared.fault.FaultKind.{FaultKind}
use Rattle.ics_components.specs.declared.fault.FaultKind.TheVariants.{BadNesting}
use Rattle.ics_components.specs.Faults.{stands, kinds}
use Rattle.ics_components.proofs.NameLemmas.{begin-is, end-is}
use Rattle.ics_components.specs.declared.name.Name.TheVariants as name

-- The last line.
pub last-more : (before : List Placed) (l : Placed) → last_of (before ++ l ∷ []) ≡ Some l
last-more [] l = refl
last-more (k ∷ ms) l = let again = last-more ms l in grind (arith, again)

-- Where the lines of a component stand: between its BEGIN and its END.
-- what began later stands further in
abbrev pub Falls : List Open → Type 0
Falls [] = Unit {0}
Falls (c ∷ cs) = (innermost cs < c.begun) × Falls cs

-- the path behind a line on which a component begins
abbrev pub inside : Placed → List Open
inside l = record { name = component l; begun = l.number } ∷ l.path

-- the component that began on that line is not open
abbrev pub Absent : ℕ → List Open → Type 0
Absent b [] = Unit {0}
Absent b (c ∷ cs) = (c.begun ≢ b) × Absent b cs

pub below : (b : ℕ) (path : List Open) → Falls path → innermost path < b → Absent b path
below b [] f h = tt
below b (c ∷ cs) f h = (λ e. omega (arith, e, h), below b cs f.1 (omega (arith, f.0, h)))

pub absent-behind : (b : ℕ) (l : Placed) → b < l.number → Absent b l.path → Absent b (path_behind l)
absent-behind b l h a =
    cond_both (is_begin l) (inside l) (cond (is_end l) (drop 1 l.path) l.path) (Absent b) (λ t. (λ e. omega (arith, e, h), a))
    (λ t. cond_both (is_end l) (drop 1 l.path) l.path (Absent b) (λ t. out l.path a) (λ t. a))
  where
    out : (path : List Open) → Absent b path → Absent b (drop 1 path)
    out [] a = tt
    out (c ∷ cs) a = a.1

-- what is open behind a line began there or before it, and falls too
pub falls-behind : (l : Placed) → Falls l.path → innermost l.path < l.number → Falls (path_behind l) × (innermost (path_behind l) ≤ l.number)
falls-behind l f h =
    cond_both (is_begin l) (inside l) (cond (is_end l) (drop 1 l.path) l.path) (λ path. Falls path × (innermost path ≤ l.number)) (λ t. ((h, f), omega arith))
    (λ t. cond_both (is_end l) (drop 1 l.path) l.path (λ path. Falls path × (innermost path ≤ l.number)) (λ t. out l.path f h) (λ t. (f, omega (arith, h))))
  where
    out : (path : List Open) → Falls path → innermost path < l.number → Falls (drop 1 path) × (innermost (drop 1 path) ≤ l.number)
    out [] f h = (tt, omega arith)
    out (c ∷ cs) f h = (f.1, omega (arith, f.0, h))

abbrev pub here : Line → List Open → Placed
here line path = record { number = line.number; content = content_of line.bytes; path = path }

-- no line stands any more in a component that is closed
module _ (b : ℕ) (some : 0 < b) where
  absent-innermost : (path : List Open) → Absent b path → innermost path ≢ b
  absent-innermost [] a = λ e. omega (arith, e, some)
  absent-innermost (c ∷ cs) a = a.0

  gone : (n : ℕ) (path : List Open) (lines : List Line) → b ≤ n → Absent b path → Rises n lines → lines_in b (placed_from path lines) ≡ []
  gone n path [] h a r = refl
  gone n path (line ∷ lines) h a r =
      let l : Placed = here line path in
      rw (ne_eqb (innermost path) b (absent-innermost path a))
      (gone line.number (path_behind l) lines (omega (arith, h, r.0)) (absent-behind b l (omega (arith, h, r.0)) a) r.1)

-- what stands directly in a component stands there before its END
pub lines_in-whole : (before : List Placed) (l : Placed) (lines : List Line) {c : Open} → l.path ≡ c ∷ path_behind l → Falls (inside l) →
    Rises l.number lines → lines_in c.begun (before ++ l ∷ placed_from (path_behind l) lines) ≡ lines_in c.begun before ++ l ∷ []
lines_in-whole before l lines {c = c} at f r =
    let inner : innermost l.path ≡ c.begun = ap innermost at in
    let out : Falls (c ∷ path_behind l) = subst Falls at f.1 in
    rw (
      filter-append (λ k. innermost k.path == c.begun) before (l ∷ placed_from (path_behind l) lines),
      eq-eqb (innermost l.path) c.begun inner,
      gone c.begun (omega (arith, out.0)) l.number (path_behind l) lines (omega (arith, inner, f.0)) (below c.begun (path_behind l) out.1 out.0) r,
    )

-- In a file without faults the components of a kind end in the order in which they begin.
-- A kind of components, by where their lines stand, with the lines on which one begins, and what is read of one.
pub record Sort (X : Type 0) : Type 0 where
  pub stands_at : Context → Bool
  pub begins : Placed → Bool
  pub by : List Open → List Placed → X

-- what is read of the component that ends on a line, given the lines beside it
abbrev pub ended_as : {X : Type 0} → Sort X → List Placed → Placed → List X
ended_as s beside line = cond (is_closing line && s.stands_at (context_of line.path)) (s.by line.path beside ∷ []) []

abbrev pub ended_from : {X : Type 0} → Sort X → List Placed → List Placed → List X
ended_from s before [] = []
ended_from s before (line ∷ lines) = ended_as s (beside before line) line ++ ended_from s (before ++ line ∷ []) lines

-- the components that are open, the innermost first
abbrev pub open_as : {X : Type 0} → Sort X → List Placed → List Open → List X
open_as s whole [] = []
open_as s whole (c ∷ cs) = cond (s.stands_at (context_of (c ∷ cs))) (s.by (c ∷ cs) (lines_in c.begun whole) ∷ open_as s whole cs) (open_as s whole cs)

-- the components that begin on the lines
abbrev pub begun : {X : Type 0} → Sort X → List Placed → List Placed → List X
begun s whole lines = map (λ l. s.by (inside l) (lines_in l.number whole)) (filter s.begins lines)

-- One begins exactly where its lines stand behind the line, and in none of its sort; and its END adds nothing to it.
pub record IsSort {X : Type 0} (s : Sort X) : Type 0 where
  pub starts : (l : Placed) → s.begins l ≡ (is_begin l && s.stands_at (context_of (inside l)))
  pub alone : (whole : List Placed) (l : Placed) → s.stands_at (context_of (inside l)) ≡ true → open_as s whole l.path ≡ []
  pub ends : (path : List Open) (ls : List Placed) (l : Placed) → name_on l.content ≡ name.End → s.by path (ls ++ l ∷ []) ≡ s.by path ls

-- no fault on a line, and thus no bad nesting
pub nested : (p : FaultKind → Bool) → find p kinds ≡ None → p BadNesting ≡ false
nested p e = grind arith

pub found-none : (number : ℕ) (kind : Option FaultKind) (later : Option Fault) → found number kind later ≡ None → (kind ≡ None) × (later ≡ None)
found-none number kind later e = (grind arith, grind arith)

-- where no fault stands at the end, nothing is open behind the last line
pub last-open : (before : List Placed) (l : Placed) → fault_at_end (before ++ l ∷ []) ≡ None → path_behind l ≡ []
last-open before l e = let last = last-more before l in grind arith

-- Where lines stand in a file: behind those before them, in components of which each began behind those that it stands in, and before them.
pub record IsPlaced (whole before : List Placed) (path : List Open) (n : ℕ) (lines : List Line) : Type 0 where
  pub parts : whole ≡ before ++ placed_from path lines
  pub falls : Falls path
  pub inner : innermost path ≤ n
  pub rises : Rises n lines

abbrev Ordered : {X : Type 0} → Sort X → List Line → Type 0
Ordered s lines =
    (whole before : List Placed) (path : List Open) (n : ℕ) → IsPlaced whole before path n lines → (fault_at_end before ≡ None → path ≡ []) →
    first_from stands fault_at_end before (placed_from path lines) ≡ None →
    ended_from s before (placed_from path lines) ≡ open_as s whole path ++ begun s whole (placed_from path lines)

-- A line that begins a component, one that ends the innermost, and any other: what ends there, with what is open behind it and begins on later lines.
module _ {X : Type 0} (s : Sort X) (i : IsSort s) (whole before : List Placed) (line : Line) (lines : List Line) where
  abbrev Steps : List Open → Type 0
  Steps path =
      ended_as s (beside before (here line path)) (here line path) ++ (open_as s whole (path_behind (here line path))
      ++ begun s whole (placed_from (path_behind (here line path)) lines))
      ≡ open_as s whole path ++ begun s whole (placed_from path (line ∷ lines))

  begins : (path : List Open) → is_begin (here line path) ≡ true → Steps path
  begins path b =
      let alone = i.alone whole (here line path) in
      rw (i.starts (here line path), begin-is (name_on (content_of line.bytes)) b) (grind arith)

  ends : (n : ℕ) (path : List Open) → IsPlaced whole before path n (line ∷ lines) → is_begin (here line path) ≡ false → is_end (here line path) ≡ true →
      closes path (component (here line path)) ≡ true → Steps path
  ends n [] is b e m = cc
  ends n (c ∷ cs) is b e m =
      let l : Placed = here line (c ∷ cs) in
      let moved : l.path ≡ c ∷ path_behind l = rw (b, e) in
      let own : lines_in c.begun whole ≡ lines_in c.begun before ++ l ∷ [] =
      ap (lines_in c.begun) is.parts
      ∙ lines_in-whole before l lines moved (omega (arith, is.inner, is.rises.0), is.falls) is.rises.1 in
      rw (
        i.starts l,
        b,
        m,
        e,
        ap (s.by (c ∷ cs)) own ∙ i.ends (c ∷ cs) (beside before l) l (end-is (name_on l.content) e),
      ) (by_test (s.stands_at (context_of (c ∷ cs))) (s.by (c ∷ cs) (beside before l)) (begun s whole (placed_from cs lines)))
    where
      by_test : (t : Bool) (x : X) (more : List X) →
          cond t (x ∷ []) [] ++ (open_as s whole cs ++ more) ≡ cond t (x ∷ open_as s whole cs) (open_as s whole cs) ++ more
      by_test t x more = grind arith

  step : (n : ℕ) (path : List Open) → IsPlaced whole before path n (line ∷ lines) → least_on stands before (here line path) ≡ None → Steps path
  step n path is none = by_tests (is_begin (here line path)) (is_end (here line path)) refl refl
    where
      nest : (is_end (here line path) && not (closes path (component (here line path)))) ≡ false
      nest = nested (λ kind. stands kind (beside before (here line path)) (here line path)) none

      by_tests : (b e : Bool) → is_begin (here line path) ≡ b → is_end (here line path) ≡ e → Steps path
      by_tests true e b h = begins path b
      by_tests false true b e = ends n path is b e (not-false _ (rw e at nest))
      by_tests false false b e = rw (i.starts (here line path), b, e)

pub ordered : {X : Type 0} (s : Sort X) → IsSort s → (lines : List Line) → Ordered s lines
ordered s k [] whole before path n is last first = rw (last first)
ordered s k (line ∷ lines) whole before path n is last first =
    let l : Placed = here line path in
    let none =
    found-none line.number (least_on stands before l) (first_from stands fault_at_end (before ++ l ∷ []) (placed_from (path_behind l) lines)) first in
    let falls = falls-behind l is.falls (omega (arith, is.inner, is.rises.0)) in
    ap (λ es. ended_as s (beside before l) l ++ es)
    (ordered s k lines whole (before ++ l ∷ []) (path_behind l) line.number (record {
      parts = is.parts ∙ sym (append_assoc before (l ∷ []) (placed_from (path_behind l) lines));
      falls = falls.0;
      inner = falls.1;
      rises = is.rises.1;
    }) (last-open before l) none.1)
    ∙ step s k whole before line lines n path is none.0
