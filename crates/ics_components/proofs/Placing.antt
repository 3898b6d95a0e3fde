-- The lines of a file are in their places, also where UIDs are made.
use Rattle.std.proofs.Common.{◌≡◌, ℕ, ◌<◌, ◌≤◌, Bool, true, false, ◌&&◌, List, [], ◌∷◌, ◌++◌, refl, sym, arith, cond, Option, Some, None, subst, ap, ◌∙◌}
use Rattle.std.specs.Option.{option_and_then}
use Rattle.std.specs.Prelude.{not}
use Rattle.ics_text.specs.Unfolded.{Line, Rises, unfolded}
use Rattle.ics_text.specs.ContentLines.{content_of}
use Rattle.ics_text.proofs.Rising.{unfolded-rises}
use Rattle.ics_components.specs.declared.name.Name.{Name}
use Rattle.ics_components.specs.declared.name.Name.TheVariants as name
use Rattle.ics_components.specs.EventLines.{all_events, breaks_off, is_well_nested, uid_line, with_uid}
use Rattle.ics_components.specs.Names.{same_name}
use Rattle.ics_components.specs.Parted.{AreInPlace, if_parted, is_sure, lines_with, parted_lines}
use Rattle.ics_components.specs.Inner.PartsPass.{here, if_sure, round_begun, round_over}
use Rattle.ics_components.specs.PlacedLines.{Placed, Open, ends_event, in_event, innermost, is_closing, is_end, is_named, name_on, path_behind, placed}
use Rattle.ics_components.specs.PlacedLines.{placed_from}
use Rattle.ics_components.proofs.Order.{Falls, falls-behind}
use Rattle.ics_components.proofs.RoundWhole.{all-mapped, round_whole}
use Rattle.ics_components.proofs.Rounds.{made_plain}

-- numbers that rise from one on rise from a lesser one on
pub from-less : (ls : List Placed) (m n : ℕ) (path : List Open) → m ≤ n → AreInPlace n path ls → AreInPlace m path ls
from-less [] m n path le h = tt
from-less (l ∷ ls) m n path le h = (h.0, omega (arith, le, h.1), λ b. omega (arith, le, h.2 b), h.3, h.4)

begin-no-end : (n : Name) → same_name n name.End ≡ true → same_name n name.Begin ≡ true → ⊥
begin-no-end name.End e b = cc
begin-no-end _ e b = cc

uid-no-mark : (n : Name) → same_name n name.Uid ≡ true → (same_name n name.Begin ≡ false) × (same_name n name.End ≡ false)
uid-no-mark name.Uid e = (refl, refl)
uid-no-mark _ e = cc

first-of : (a b : Bool) → (a && b) ≡ true → (a ≡ true) × (b ≡ true)
first-of a b e = (grind (arith, e), grind (arith, e))

with-uids : (file : List ℕ) (l : Placed) (rest : List Placed) (n : ℕ) → n < l.number → innermost l.path < l.number →
    AreInPlace l.number (path_behind l) rest → AreInPlace n l.path (with_uid file l ++ rest)
with-uids file l rest n less inner h = by_uid (in_event l && is_named name.Uid l) refl
  where
    as-is : AreInPlace n l.path (l ∷ rest)
    as-is = (refl, omega (arith, less), λ b. less, inner, h)

    by_end : (t : Bool) → ends_event l ≡ t → AreInPlace n l.path (cond t (uid_line file l ∷ l ∷ []) (l ∷ []) ++ rest)
    by_end false e = as-is
    by_end true e =
        let plain = made_plain file l in
        let is = (first-of (is_end l) _ (first-of (is_closing l) (in_event l) e).0).0 in (
          refl,
          omega (arith, less),
          λ b. less,
          inner,
          (sym plain.1, omega arith, λ b. absurd (begin-no-end (name_on l.content) is b), rw (plain.1) inner, h),
        )

    by_uid : (t : Bool) → (in_event l && is_named name.Uid l) ≡ t →
        AreInPlace n l.path (cond t [] (cond (ends_event l) (uid_line file l ∷ l ∷ []) (l ∷ [])) ++ rest)
    by_uid false e = by_end (ends_event l) refl
    by_uid true e =
        let no = uid-no-mark (name_on l.content) (first-of (in_event l) (is_named name.Uid l) e).1 in
        let stays : path_behind l ≡ l.path = rw (no.0, no.1) refl in
        from-less rest n l.number l.path (omega (arith, less)) (subst (λ (p : List Open). AreInPlace l.number p rest) stays h)

pub in_place : (file : Option (List ℕ)) (lines : List Line) (n : ℕ) (path : List Open) → Rises n lines → Falls path → innermost path ≤ n →
    AreInPlace n path (lines_with file (placed_from path lines))
in_place None [] n path r f le = tt
in_place (Some file) [] n path r f le = tt
in_place None (line ∷ lines) n path r f le =
    let l : Placed = here line.number (content_of line.bytes) path in
    let moved = falls-behind l f (omega (arith, le, r.0)) in
    (refl, omega (arith, r.0), λ b. r.0, omega (arith, le, r.0), in_place None lines line.number (path_behind l) r.1 moved.0 moved.1)
in_place (Some file) (line ∷ lines) n path r f le =
    let l : Placed = here line.number (content_of line.bytes) path in
    let moved = falls-behind l f (omega (arith, le, r.0)) in
    with-uids file l (lines_with (Some file) (placed_from (path_behind l) lines)) n r.0 (omega (arith, le, r.0))
    (in_place (Some file) lines line.number (path_behind l) r.1 moved.0 moved.1)

-- THE ROUND GATHERS what is to be gathered of a file.
sure : (file : Option (List ℕ)) (ls : List Placed) (t : Bool) →
    option_and_then (if_sure file) (cond t (Some (parted_lines ls)) None) ≡ cond (t && is_sure file ls) (Some (parted_lines ls)) None
sure file ls false = refl
sure None ls true = ap (λ t. cond t (Some (parted_lines ls)) None) (all-mapped ls (all_events ls))
sure (Some file) ls true = refl

pub parted_whole : (file : Option (List ℕ)) (bytes : List ℕ) →
    option_and_then (if_sure file) (round_over round_begun (lines_with file (placed bytes))) ≡ if_parted file (lines_with file (placed bytes))
parted_whole file bytes =
    let ls : List Placed = lines_with file (placed bytes) in
    ap (option_and_then (if_sure file)) (round_whole ls (in_place file (unfolded bytes) 0 [] (unfolded-rises bytes) tt (omega arith)))
    ∙ sure file ls (is_well_nested ls && not (breaks_off ls))
