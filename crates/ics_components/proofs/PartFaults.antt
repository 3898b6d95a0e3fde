-- The first fault of a file is the least of those of its parts, and a component is judged by itself.
use Rattle.std.proofs.Common.{◌≡◌, ℕ, ◌<◌, ◌≤◌, Bool, true, false, ◌||◌, ◌==◌, List, [], ◌∷◌, ◌++◌, refl, sym, ap, ◌∙◌, arith, cond}
use Rattle.std.proofs.Common.{filter, Option, Some, None, IfSome, subst, append_assoc}
use Rattle.std.specs.Prelude.{find, not}
use Rattle.std.specs.Option.{option_or}
use Rattle.std.specs.List.{All, list_any}
use Rattle.std.proofs.lemmas.Bool.Decides.{nat_tests}
use Rattle.std.proofs.lemmas.List.{append-nil}
use Rattle.std.proofs.lemmas.List.Elements.{All-head, All-tail, filter-append}
use Rattle.std.proofs.lemmas.Option.{IfSome_then}
use Rattle.ics_text.specs.Unfolded.{Line, Rises, unfolded}
use Rattle.ics_text.specs.ContentLines.{content_of}
use Rattle.ics_text.proofs.Rising.{unfolded-rises}
use Rattle.ics_components.specs.declared.fault.FaultKind.{FaultKind}
use Rattle.ics_components.specs.PlacedLines.{Placed, Open, innermost, lines_in, beside, placed, placed_from, path_behind}
use Rattle.ics_components.specs.Faults.{stands, kinds}
use Rattle.ics_components.specs.FirstFault.{Fault, Round, found, least_on, first_from, fault_at_end}
use Rattle.ics_components.specs.PartFaults.{is_within, first_among, earlier, IsLeastOfParts, IsLeastOfBoth, StandsAlone}
use Rattle.ics_components.specs.PartFaults.{path_after, StandsApart}
use Rattle.ics_components.proofs.Bundles.{Bundle, Keeps, falls, opens, bundles_behind, opens-behind}
use Rattle.ics_components.proofs.Frames.{with}
use Rattle.ics_components.proofs.Order.{Falls}
use Rattle.ics_components.proofs.PassLemmas.{IsAt, at-next, first-at}

-- what is found stands behind that line
abbrev IsBehind : ℕ → Option Fault → Type 0
IsBehind n o = IfSome o (λ fault. n < fault.line)

found-behind : (n m : ℕ) (k : Option FaultKind) (later : Option Fault) → n < m → IsBehind m later → IsBehind n (found m k later)
found-behind n m (Some kind) later h b = h
found-behind n m None later h b = IfSome_then later b (λ fault less. omega (arith, h, less))

among-behind : (part : Placed → Bool) (round : Round) (lines : List Line) (before : List Placed) (path : List Open) (n : ℕ) → Rises n lines →
    IsBehind n (first_among part round before (placed_from path lines))
among-behind part round [] before path n r = tt
among-behind part round (line ∷ lines) before path n r =
    let l : Placed = with line path (content_of line.bytes) in
    found-behind n line.number (cond (part l) (least_on round before l) None) _ r.0
    (among-behind part round lines (before ++ l ∷ []) (path_behind l) line.number r.1)

-- THE LEAST OF TWO PARTS, on a line and behind it.
step-both : (n : ℕ) (p q : Bool) (k : Option FaultKind) (x y z : Option Fault) → z ≡ earlier x y → IsBehind n x → IsBehind n y →
    found n (cond (p || q) k None) z ≡ earlier (found n (cond p k None) x) (found n (cond q k None) y)
step-both n p q None x y z e h i = grind (arith, e)
step-both n true true (Some kind) x y z e h i = grind (arith, nat_tests)
step-both n true false (Some kind) x None z e h i = refl
step-both n true false (Some kind) x (Some f) z e h i = grind (arith, nat_tests, i)
step-both n false true (Some kind) None y z e h i = refl
step-both n false true (Some kind) (Some f) y z e h i = grind (arith, nat_tests, h)
step-both n false false (Some kind) x y z e h i = e

both : (part other : Placed → Bool) (round : Round) (lines : List Line) (before : List Placed) (path : List Open) (n : ℕ) → Rises n lines →
    first_among (λ line. part line || other line) round before (placed_from path lines)
    ≡ earlier (first_among part round before (placed_from path lines)) (first_among other round before (placed_from path lines))
both part other round [] before path n r = refl
both part other round (line ∷ lines) before path n r =
    let l : Placed = with line path (content_of line.bytes) in
    step-both line.number (part l) (other l) (least_on round before l) _ _ _
    (both part other round lines (before ++ l ∷ []) (path_behind l) line.number r.1)
    (among-behind part round lines (before ++ l ∷ []) (path_behind l) line.number r.1)
    (among-behind other round lines (before ++ l ∷ []) (path_behind l) line.number r.1)

pub least-of-both : IsLeastOfBoth
least-of-both part other file = both part other stands (unfolded file) [] [] 0 (unfolded-rises file)

-- ALL LINES, and what stands at their end.
or-found : (n : ℕ) (k : Option FaultKind) (later last : Option Fault) → found n k (option_or later last) ≡ option_or (found n k later) last
or-found n (Some kind) later last = refl
or-found n None later last = refl

all-lines : (every : Placed → Bool) → ((l : Placed) → every l ≡ true) → (round : Round) (at_end : List Placed → Option Fault) (before lines : List Placed) →
    first_from round at_end before lines ≡ option_or (first_among every round before lines) (at_end (before ++ lines))
all-lines every h round at_end before [] = ap at_end (sym (append-nil before))
all-lines every h round at_end before (l ∷ ls) =
    rw (h l) (
    ap (found l.number (least_on round before l))
    (all-lines every h round at_end (before ++ l ∷ []) ls
    ∙ ap (λ b. option_or (first_among every round (before ++ l ∷ []) ls) (at_end b)) (append_assoc before (l ∷ []) ls))
    ∙ or-found l.number (least_on round before l) (first_among every round (before ++ l ∷ []) ls) (at_end (before ++ l ∷ ls))
    )

either : (part : Placed → Bool) (l : Placed) → (part l || not (part l)) ≡ true
either part l = grind arith

pub least-of-parts : IsLeastOfParts
least-of-parts part file =
    all-lines (λ line. part line || not (part line)) (either part) stands fault_at_end [] (placed file)
    ∙ ap (λ o. option_or o (fault_at_end (placed file))) (least-of-both part (λ line. not (part line)) file)

-- A COMPONENT BY ITSELF. What stands beside a line stands on its path.
abbrev IsOnPath : List Open → Placed → Type 0
IsOnPath path l = l.path ≡ path

beside-path : (before : List Placed) (bundles : List Bundle) → Keeps before [] bundles → (0 < innermost (opens bundles)) →
    All (IsOnPath (opens bundles)) (lines_in (innermost (opens bundles)) before)
beside-path before [] k h = absurd (omega (arith, h))
beside-path before (f ∷ fs) k h = rw (k.0, append-nil f.lines) k.1.places

-- a test that holds of all elements keeps them
kept-all : (p : Placed → Bool) (path : List Open) (ls : List Placed) → ((l : Placed) → l.path ≡ path → p l ≡ true) → All (IsOnPath path) ls → filter p ls ≡ ls
kept-all p path [] h k = refl
kept-all p path (l ∷ ls) h k =
    rw (h l (All-head (IsOnPath path) l ls k)) (ap (λ (xs : List Placed). l ∷ xs) (kept-all p path ls h (All-tail (IsOnPath path) l ls k)))

filters-commute : (p q : Placed → Bool) (ls : List Placed) → filter p (filter q ls) ≡ filter q (filter p ls)
filters-commute p q [] = refl
filters-commute p q (l ∷ ls) = let again = filters-commute p q ls in grind (arith, again)

-- a component that is open began on the line of the innermost, or before it
abbrev pub is_open : ℕ → List Open → Bool
is_open begun path = list_any (λ c. c.begun == begun) path

inner-least : (begun : ℕ) (path : List Open) → Falls path → is_open begun path ≡ true → begun ≤ innermost path
inner-least begun [] f h = cc
inner-least begun (c ∷ cs) f h = let again = inner-least begun cs f.1 in grind (arith, nat_tests, again, f.0)

module _ (begun : ℕ) (some : 0 < begun) where
  abbrev p : Placed → Bool
  p = is_within begun

  -- beside a line of the component stands what stands there of the component's lines alone
  beside-alone : (before : List Placed) (bundles : List Bundle) → Keeps before [] bundles → is_open begun (opens bundles) ≡ true →
      lines_in (innermost (opens bundles)) (filter p before) ≡ lines_in (innermost (opens bundles)) before
  beside-alone before bundles kept h =
      let least = inner-least begun (opens bundles) (falls before [] bundles kept) h in
      filters-commute (λ k. innermost k.path == innermost (opens bundles)) p before
      ∙ kept-all p (opens bundles) (lines_in (innermost (opens bundles)) before) (λ k e. ap (is_open begun) e ∙ h)
      (beside-path before bundles kept (omega (arith, some, least)))

  filter-one : (before : List Placed) (l : Placed) (t : Bool) → p l ≡ t → filter p (before ++ l ∷ []) ≡ filter p before ++ cond t (l ∷ []) []
  filter-one before l t e = simp (filter-append, e)

  abbrev Alone : List Placed → List Placed → Type 0
  Alone before ls = first_among p stands before ls ≡ first_from stands (λ b. None) (filter p before) (filter p ls)

  one-line : (before : List Placed) (l : Placed) (ls : List Placed) → (p l ≡ true → beside (filter p before) l ≡ beside before l) →
      Alone (before ++ l ∷ []) ls →
      Alone before (l ∷ ls)
  one-line before l ls same again = by_test (p l) refl
    where
      by_test : (t : Bool) → p l ≡ t →
          found l.number (cond t (least_on stands before l) None) (first_among p stands (before ++ l ∷ []) ls)
          ≡ first_from stands (λ b. None) (filter p before) (cond t (l ∷ filter p ls) (filter p ls))
      by_test true e =
          let here = ap (λ b. find (λ kind. stands kind b l) kinds) (sym (same e)) in
          let later = again ∙ ap (λ b. first_from stands (λ b. None) b (filter p ls)) (filter-one before l true e) in
          λ i. found l.number (here i) (later i)
      by_test false e = again ∙ ap (λ b. first_from stands (λ b. None) b (filter p ls)) (filter-one before l false e ∙ append-nil (filter p before))

  alone : (lines : List Line) (whole before : List Placed) (bundles : List Bundle) → IsAt whole before bundles lines →
      Alone before (placed_from (opens bundles) lines)
  alone [] whole before bundles at = refl
  alone (line ∷ lines) whole before bundles on =
      let l : Placed = with line (opens bundles) (content_of line.bytes) in
      let again = alone lines whole (before ++ l ∷ []) (bundles_behind l bundles) (at-next line (content_of line.bytes) lines on) in
      one-line before l (placed_from (path_behind l) lines) (λ e. beside-alone before bundles on.kept e)
      (subst (λ path. Alone (before ++ l ∷ []) (placed_from path lines)) (opens-behind l bundles refl) again)

pub stands-alone : StandsAlone
stands-alone file begun some = alone begun some (unfolded file) (placed file) [] [] (first-at (unfolded file) (unfolded-rises file))

-- LINES WITHOUT A COMPONENT.
placed-append : (path : List Open) (a b : List Line) → placed_from path (a ++ b) ≡ placed_from path a ++ placed_from (path_after path a) b
placed-append path [] b = refl
placed-append path (line ∷ a) b =
    let l : Placed = with line path (content_of line.bytes) in ap (λ (ls : List Placed). l ∷ ls) (placed-append (path_behind l) a b)

pub stands-apart : StandsApart
stands-apart path block rest e = placed-append path block rest ∙ ap (λ (p : List Open). placed_from path block ++ placed_from p rest) e
