-- The lines of a file that has parts, also where UIDs are made, are in their places, nest well, and have numbers of their own but within events.
use Rattle.std.proofs.Common.{◌≡◌, ℕ, ◌<◌, ◌≤◌, Bool, true, false, ◌&&◌, ◌||◌, not, List, [], ◌∷◌, ◌++◌, refl, arith, cond, Option, Some, None}
use Rattle.std.specs.List.{list_all}
use Rattle.ics_text.specs.Unfolded.{Line, Rises, unfolded}
use Rattle.ics_text.specs.ContentLines.{content_of}
use Rattle.ics_text.proofs.Rising.{unfolded-rises}
use Rattle.ics_components.specs.Components.{is_event_context, is_observance_context, is_zone_context}
use Rattle.ics_components.specs.declared.name.Name.TheVariants as name
use Rattle.ics_components.specs.EventLines.{all_events, breaks_off, has_no_uid, has_parts, is_certain, is_well_nested, uid_line, with_uid, with_uids}
use Rattle.ics_components.specs.Parted.{AreInPlace, lines_with, part_in}
use Rattle.ics_components.specs.Inner.PartsPass.{here}
use Rattle.ics_components.specs.PlacedLines.{Open, Placed, context_of, ends_event, in_event, is_closing, is_named, path_behind, placed, placed_from}
use Rattle.ics_components.proofs.Folds.{plain-there}
use Rattle.ics_components.proofs.ItemFaults.{AreApart}
use Rattle.ics_components.proofs.MadeUids.{together}
use Rattle.ics_components.proofs.Placing.{in_place}

two-of : (a b : Bool) → (a && b) ≡ true → (a ≡ true) × (b ≡ true)
two-of a b e = (grind (arith, e), grind (arith, e))

apart-less : (ls : List Placed) (m n : ℕ) → m ≤ n → AreApart n ls → AreApart m ls
apart-less [] m n le h = tt
apart-less (l ∷ ls) m n le h = (λ p. let less = h.0 p in omega (arith, le, less), h.1)

plain-no-event : (a b c : Bool) → not (a || (b || c)) ≡ true → a ≡ false
plain-no-event a b c e = grind (arith, e)

event-open : (path : List Open) → is_event_context (context_of path) ≡ true → part_in path ≡ None → ⊥
event-open path e p =
    let no =
    plain-no-event (is_event_context (context_of path)) (is_zone_context (context_of path)) (is_observance_context (context_of path)) (plain-there path p) in
    cc

made-apart : (file : List ℕ) (l : Placed) (rest : List Placed) (n : ℕ) → n < l.number → AreApart l.number rest → AreApart n (with_uid file l ++ rest)
made-apart file l rest n less h = by_uid (in_event l && is_named name.Uid l)
  where
    by_end : (t : Bool) → ends_event l ≡ t → AreApart n (cond t (uid_line file l ∷ l ∷ []) (l ∷ []) ++ rest)
    by_end false e = (λ p. less, h)
    by_end true e = (λ p. less, (λ p. absurd (event-open l.path (two-of (is_closing l) (in_event l) e).1 p), h))

    by_uid : (t : Bool) → AreApart n (cond t [] (cond (ends_event l) (uid_line file l ∷ l ∷ []) (l ∷ [])) ++ rest)
    by_uid true = apart-less rest n l.number (omega (arith, less)) h
    by_uid false = by_end (ends_event l) refl

pub placed_apart : (file : Option (List ℕ)) (lines : List Line) (n : ℕ) (path : List Open) → Rises n lines
    → AreApart n (lines_with file (placed_from path lines))
placed_apart None [] n path r = tt
placed_apart (Some file) [] n path r = tt
placed_apart None (line ∷ lines) n path r =
    let l : Placed = here line.number (content_of line.bytes) path in (λ p. r.0, placed_apart None lines line.number (path_behind l) r.1)
placed_apart (Some file) (line ∷ lines) n path r =
    let l : Placed = here line.number (content_of line.bytes) path in
    made-apart file l (lines_with (Some file) (placed_from (path_behind l) lines)) n r.0 (placed_apart (Some file) lines line.number (path_behind l) r.1)

-- THE LINES OF A FILE WITH PARTS.
pub record AreParted (ls : List Placed) : Type 0 where
  pub in_place : AreInPlace 0 [] ls
  pub apart : AreApart 0 ls
  pub nested : is_well_nested ls ≡ true

three : (a b c : Bool) → ((a && b) && c) ≡ true → a ≡ true
three a b c e = grind (arith, e)

pub are_parted : (file bytes : List ℕ) → has_parts (placed bytes) ≡ true → AreParted (with_uids file (placed bytes))
are_parted file bytes e = by_test (list_all (has_no_uid (placed bytes)) (all_events (placed bytes)))
  where
    ls : List Placed
    ls = placed bytes

    as_is : AreInPlace 0 [] (placed bytes)
    as_is = in_place None (unfolded bytes) 0 [] (unfolded-rises bytes) tt (omega arith)

    by_test : (t : Bool) → AreParted (cond t (lines_with (Some file) (placed bytes)) (placed bytes))
    by_test false = record {
      in_place = as_is;
      apart = placed_apart None (unfolded bytes) 0 [] (unfolded-rises bytes);
      nested = three (is_well_nested (placed bytes)) (not (breaks_off (placed bytes))) (list_all (is_certain (placed bytes)) (all_events (placed bytes))) e;
    }
    by_test true = record {
      in_place = in_place (Some file) (unfolded bytes) 0 [] (unfolded-rises bytes) tt (omega arith);
      apart = placed_apart (Some file) (unfolded bytes) 0 [] (unfolded-rises bytes);
      nested = (two-of (is_well_nested (lines_with (Some file) (placed bytes))) _ (together file (placed bytes) as_is e)).0;
    }
