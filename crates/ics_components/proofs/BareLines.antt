-- Bare lines, one by one.
use Rattle.std.proofs.Common.{◌≡◌, ℕ, Bool, true, false, ◌&&◌, not, List, ◌∷◌, refl, sym, ap, ◌∙◌, arith, None, Some}
use Rattle.ics_text.specs.ContentLines.{Parts, content_of}
use Rattle.ics_text.specs.Passing.{IsPassed}
use Rattle.ics_text.specs.Unfolded.{Line}
use Rattle.ics_components.specs.declared.name.Name.TheVariants as name
use Rattle.ics_components.specs.EventLines.{in_any_event, nests}
use Rattle.ics_components.specs.Inner.BareLines.{GoesBare, StepsBare, bare_over, is_bare, leaves_doubt}
use Rattle.ics_components.specs.Known.{is_known}
use Rattle.ics_components.specs.Inner.PartsPass.{here}
use Rattle.ics_components.specs.PlacedLines.{Open, Placed, named, name_on, path_behind, placed_from}
use Rattle.ics_components.proofs.PassedLines.{unread-other}

-- what nests is bare where it leaves no doubt or is in no event
pub no-nest : (l : Placed) → nests l ≡ false → false ≡ is_bare l
no-nest l e = never (nests l) (in_any_event l.path && leaves_doubt l) e
  where
    never : (n d : Bool) → n ≡ false → false ≡ (n && not d)
    never n d e = grind (arith, e)

pub no-doubt : (l : Placed) → nests l ≡ true → leaves_doubt l ≡ false → true ≡ is_bare l
no-doubt l e f = plain (nests l) (in_any_event l.path) (leaves_doubt l) e f
  where
    plain : (n a d : Bool) → n ≡ true → d ≡ false → true ≡ (n && not (a && d))
    plain n a d e f = grind (arith, e, f)

pub by-place : (l : Placed) → nests l ≡ true → leaves_doubt l ≡ true → not (in_any_event l.path) ≡ is_bare l
by-place l e f = placed_so (nests l) (in_any_event l.path) (leaves_doubt l) e f
  where
    placed_so : (n a d : Bool) → n ≡ true → d ≡ true → not a ≡ (n && not (a && d))
    placed_so n a d e f = grind (arith, e, f)

pub bare_steps : (l : Placed) (path behind : List Open) → is_bare l ≡ true → behind ≡ path_behind l → StepsBare true l path behind
bare_steps l path behind e same = (same, λ rest. rw (e, same) refl)

pub doubt_stops : (l : Placed) (path behind : List Open) → is_bare l ≡ false → StepsBare false l path behind
doubt_stops l path behind e = λ rest. rw e refl

-- a line that is no content line
bad-is : (number : ℕ) (path : List Open) → (nests (here number None path) ≡ true) × (path_behind (here number None path) ≡ path)
unfolding name_on
bad-is number path = (refl, refl)

pub bad_bare : (number : ℕ) (path : List Open) → in_any_event path ≡ false → StepsBare true (here number None path) path path
bad_bare number path e =
    let is = bad-is number path in bare_steps (here number None path) path path (sym (no-doubt-there is.0 e)) (sym is.1)
  where
    no-doubt-there : nests (here number None path) ≡ true → in_any_event path ≡ false → true ≡ is_bare (here number None path)
    no-doubt-there n e = grind (arith, n, e)

pub bad_stops : (number : ℕ) (path : List Open) → in_any_event path ≡ true → StepsBare false (here number None path) path path
bad_stops number path e = doubt_stops (here number None path) path path (stops (nests (here number None path)) (in_any_event path) e)
  where
    stops : (n a : Bool) → a ≡ true → (n && not (a && true)) ≡ false
    stops n a e = grind (arith, e)

-- a line as it is read
pub goes_bare : (bare : Bool) (l : Line) (rest : List Line) (path behind : List Open) →
    StepsBare bare (here l.number (content_of l.bytes) path) path behind → GoesBare bare (l ∷ rest) rest path behind
goes_bare true l rest path behind s =
    let line : Placed = here l.number (content_of l.bytes) path in
    s.1 (placed_from (path_behind line) rest) ∙ ap (λ p. bare_over behind (placed_from p rest)) (sym s.0)
goes_bare false l rest path behind s = s (placed_from (path_behind (here l.number (content_of l.bytes) path)) rest)

pub taken_bare : (bare : Bool) (l : Line) (lines rest : List Line) (path behind : List Open) → lines ≡ l ∷ rest →
    StepsBare bare (here l.number (content_of l.bytes) path) path behind → GoesBare bare lines rest path behind
taken_bare bare l lines rest path behind same s = rw same (goes_bare bare l rest path behind s)

-- a line whose property is not read
other-is : (number : ℕ) (parts : Parts) (path : List Open) → name.Other ≡ named parts →
    (is_bare (here number (Some parts) path) ≡ true) × (path ≡ path_behind (here number (Some parts) path))
unfolding name_on
other-is number parts path e = rw (sym e) (never (in_any_event path), refl)
  where
    never : (a : Bool) → (true && not (a && false)) ≡ true
    never a = grind arith

pub passed_bare : (number : ℕ) (lines rest : List Line) (path : List Open) → IsPassed is_known number lines rest → GoesBare true lines rest path path
passed_bare number lines rest path p =
    let is = other-is p.line.number p.unread.parts path (unread-other p.unread) in
    taken_bare true p.line lines rest path path p.first
    (rw (p.unread.are) (bare_steps (here p.line.number (Some p.unread.parts) path) path path is.0 is.1))
