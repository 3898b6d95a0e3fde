-- Where no fault stands in lines in their places, the components of a kind end in the order in which they begin.
use Rattle.std.proofs.Common.{◌≡◌, ℕ, ◌<◌, Bool, true, false, ◌&&◌, not, List, [], ◌∷◌, ◌++◌, refl, sym, ap, ◌∙◌, append_assoc, arith, cond, Option, None}
use Rattle.std.proofs.Common.{subst}
use Rattle.std.proofs.lemmas.Bool.{not-false}
use Rattle.ics_text.specs.ContentLines.{Parts}
use Rattle.ics_components.specs.Faults.{stands}
use Rattle.ics_components.specs.FirstFault.{least_on, first_from, fault_at_end}
use Rattle.ics_components.specs.Parted.{AreInPlace}
use Rattle.ics_components.specs.Inner.PartsPass.{here}
use Rattle.ics_components.specs.PlacedLines.{Placed, Open, beside, closes, component, context_of, innermost, is_begin, is_end, lines_in, name_on, path_behind}
use Rattle.ics_components.proofs.NameLemmas.{begin-is, end-is}
use Rattle.ics_components.proofs.Order.{Falls, IsSort, Sort, begun, ended_as, ended_from, falls-behind, found-none, last-open, nested, open_as}
use Rattle.ics_components.proofs.ReadLemmas.{own-whole}

-- A line that begins a component, one that ends the innermost, and any other.
module _ {X : Type 0} (s : Sort X) (i : IsSort s) (whole before : List Placed) (number : ℕ) (o : Option Parts) (ls : List Placed) where
  abbrev on : List Open → Placed
  on path = here number o path

  abbrev Steps : List Open → Type 0
  Steps path =
      ended_as s (beside before (on path)) (on path) ++ (open_as s whole (path_behind (on path)) ++ begun s whole ls)
      ≡ open_as s whole path ++ begun s whole (on path ∷ ls)

  begins : (path : List Open) → is_begin (on path) ≡ true → Steps path
  begins path b = let alone = i.alone whole (on path) in rw (i.starts (on path), begin-is (name_on o) b) (grind arith)

  ends : (path : List Open) → whole ≡ before ++ on path ∷ ls → Falls path → innermost path < number → AreInPlace number (path_behind (on path)) ls →
      is_begin (on path) ≡ false → is_end (on path) ≡ true → closes path (component (on path)) ≡ true → Steps path
  ends [] parts falls inner h b e m = cc
  ends (c ∷ cs) parts falls inner h b e m =
      let l : Placed = on (c ∷ cs) in
      let moved : l.path ≡ c ∷ path_behind l = rw (b, e) in
      let own : lines_in c.begun whole ≡ lines_in c.begun before ++ l ∷ [] =
      ap (lines_in c.begun) parts ∙ own-whole before l ls moved (inner, falls) h in
      rw (i.starts l, b, m, e, ap (s.by (c ∷ cs)) own ∙ i.ends (c ∷ cs) (beside before l) l (end-is (name_on o) e))
      (by_test (s.stands_at (context_of (c ∷ cs))) (s.by (c ∷ cs) (beside before l)) (begun s whole ls))
    where
      by_test : (t : Bool) (x : X) (more : List X) →
          cond t (x ∷ []) [] ++ (open_as s whole cs ++ more) ≡ cond t (x ∷ open_as s whole cs) (open_as s whole cs) ++ more
      by_test t x more = grind arith

  step : (path : List Open) → whole ≡ before ++ on path ∷ ls → Falls path → innermost path < number → AreInPlace number (path_behind (on path)) ls →
      least_on stands before (on path) ≡ None → Steps path
  step path parts falls inner h none = by_tests (is_begin (on path)) (is_end (on path)) refl refl
    where
      nest : (is_end (on path) && not (closes path (component (on path)))) ≡ false
      nest = nested (λ kind. stands kind (beside before (on path)) (on path)) none

      by_tests : (b e : Bool) → is_begin (on path) ≡ b → is_end (on path) ≡ e → Steps path
      by_tests true e b h = begins path b
      by_tests false true b e = ends path parts falls inner h b e (not-false _ (rw e at nest))
      by_tests false false b e = rw (i.starts (on path), b, e)

-- where each line stands, as it stands
abbrev Ordered : {X : Type 0} → Sort X → List Placed → Type 0
Ordered s ls =
    (whole before : List Placed) (path : List Open) (n : ℕ) → whole ≡ before ++ ls → Falls path → AreInPlace n path ls →
    (fault_at_end before ≡ None → path ≡ []) → first_from stands fault_at_end before ls ≡ None →
    ended_from s before ls ≡ open_as s whole path ++ begun s whole ls

one-line : {X : Type 0} (s : Sort X) → IsSort s → (ls : List Placed) → Ordered s ls → (number : ℕ) (o : Option Parts) (whole before : List Placed)
    (path : List Open) (n : ℕ) → Falls path → whole ≡ before ++ here number o path ∷ ls → AreInPlace n path (here number o path ∷ ls) →
    first_from stands fault_at_end before (here number o path ∷ ls) ≡ None →
    ended_from s before (here number o path ∷ ls) ≡ open_as s whole path ++ begun s whole (here number o path ∷ ls)
one-line s k ls again number o whole before path n falls parts h first =
    let l : Placed = here number o path in
    let none = found-none number (least_on stands before l) (first_from stands fault_at_end (before ++ l ∷ []) ls) first in
    ap (λ es. ended_as s (beside before l) l ++ es)
    (again whole (before ++ l ∷ []) (path_behind l) number (parts ∙ sym (append_assoc before (l ∷ []) ls)) (falls-behind l falls h.3).0 h.4
    (last-open before l) none.1)
    ∙ step s k whole before number o ls path parts falls h.3 h.4 none.0

pub ordered_lines : {X : Type 0} (s : Sort X) → IsSort s → (ls : List Placed) → Ordered s ls
ordered_lines s k [] whole before path n parts falls h last first = rw (last first)
ordered_lines s k (l ∷ ls) whole before path n parts falls h last first =
    let same : here l.number l.content path ≡ l = λ i. record { number = l.number; content = l.content; path = sym h.0 i } in
    subst (λ (m : Placed).
    whole ≡ before ++ m ∷ ls → AreInPlace n path (m ∷ ls) → first_from stands fault_at_end before (m ∷ ls) ≡ None →
    ended_from s before (m ∷ ls) ≡ open_as s whole path ++ begun s whole (m ∷ ls)) same
    (one-line s k ls (ordered_lines s k ls) l.number l.content whole before path n falls) parts h first
