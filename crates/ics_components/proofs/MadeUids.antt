-- A file that has parts has them too where its events get UIDs.
use Rattle.std.proofs.Common.{◌≡◌, ℕ, Bool, true, false, ◌&&◌, ◌||◌, not, List, [], ◌∷◌, ◌++◌, refl, sym, ap, ◌∙◌, arith, cond, Option, Some, None}
use Rattle.std.specs.Prelude.{is_none}
use Rattle.std.specs.List.{list_all}
use Rattle.ics_text.specs.ContentLines.{Parts}
use Rattle.ics_text.specs.Unfolded.{begins_with_fold, unfolded}
use Rattle.ics_text.proofs.Rising.{unfolded-rises}
use Rattle.ics_components.specs.declared.name.Name.TheVariants as name
use Rattle.ics_components.specs.EventLines.{all_events, breaks_off, has_parts, is_certain, is_uid, is_well_nested, nests, path_at_end, uid_line}
use Rattle.ics_components.specs.FirstFault.{no_open}
use Rattle.ics_components.specs.Names.{same_name}
use Rattle.ics_components.specs.Parted.{AreInPlace, lines_with, parted_lines, parted_of}
use Rattle.ics_components.specs.Inner.PartsPass.{is_event_uid}
use Rattle.ics_components.specs.PlacedLines.{Placed, Open, ends_event, in_event, is_end, is_named, name_on, path_behind, placed, value_of}
use Rattle.ics_components.proofs.Paths.{any_event}
use Rattle.ics_components.proofs.RoundWhole.{broken, broken-off}
use Rattle.ics_components.proofs.Placing.{in_place}
use Rattle.ics_components.proofs.Rounds.{end-of, uid-stays, uid_nests}

first-of : (a b : Bool) → (a && b) ≡ true → (a ≡ true) × (b ≡ true)
first-of a b e = (grind (arith, e), grind (arith, e))

neither : (a b : Bool) → (a || b) ≡ false → (a ≡ false) × (b ≡ false)
neither a b e = (grind (arith, e), grind (arith, e))

module _ (file : List ℕ) where
  abbrev made : List Placed → List Placed
  made ls = lines_with (Some file) ls

  -- a UID of an event leaves the components as they are
  dropped-path : (l : Placed) → is_event_uid l ≡ true → path_behind l ≡ l.path
  dropped-path l e =
      let stays = uid-stays (name_on l.content) (first-of (in_event l) (is_named name.Uid l) e).1 in rw (stays.0, stays.1) refl

  -- AT THE END the same components are open.
  at-end : (ls : List Placed) (n : ℕ) (path : List Open) → AreInPlace n path ls → path_at_end path (made ls) ≡ path_at_end path ls
  at-end [] n path h = refl
  at-end (l ∷ ls) n path h = by_uid (is_event_uid l) refl (at-end ls l.number (path_behind l) h.4)
    where
      by_uid : (t : Bool) → is_event_uid l ≡ t → path_at_end (path_behind l) (made ls) ≡ path_at_end (path_behind l) ls →
          path_at_end path (cond t [] (cond (ends_event l) (uid_line file l ∷ l ∷ []) (l ∷ [])) ++ made ls) ≡ path_at_end (path_behind l) ls
      by_uid true e again = ap (λ p. path_at_end p (made ls)) (sym h.0 ∙ sym (dropped-path l e)) ∙ again
      by_uid false e again = by_end (ends_event l)
        where
          by_end : (t : Bool) → path_at_end path (cond t (uid_line file l ∷ l ∷ []) (l ∷ []) ++ made ls) ≡ path_at_end (path_behind l) ls
          by_end true = again
          by_end false = again

  -- EACH LINE NESTS as before.
  all-nest : (ls : List Placed) → list_all nests ls ≡ true → list_all nests (made ls) ≡ true
  all-nest [] e = refl
  all-nest (l ∷ ls) e = let both = first-of (nests l) (list_all nests ls) e in by_uid (is_event_uid l) both.0 (all-nest ls both.1)
    where
      by_uid : (t : Bool) → nests l ≡ true → list_all nests (made ls) ≡ true →
          list_all nests (cond t [] (cond (ends_event l) (uid_line file l ∷ l ∷ []) (l ∷ [])) ++ made ls) ≡ true
      by_uid true one more = more
      by_uid false one more = by_end (ends_event l)
        where
          by_end : (t : Bool) → list_all nests (cond t (uid_line file l ∷ l ∷ []) (l ∷ []) ++ made ls) ≡ true
          by_end true = rw (uid_nests l.number (value_of (uid_line file l).content) l.path, one) more
          by_end false = rw one more

  -- NO UID BREAKS OFF that did not before. The line before may be a UID that was made only where it was one.
  has-content : (o : Option Parts) → same_name (name_on o) name.End ≡ true → is_none o ≡ false
  unfolding name_on
  has-content None e = cc
  has-content (Some c) e = refl

  no-break : (v u b : Bool) → (v && not u) ≡ false → (u && b) ≡ false → (v && b) ≡ false
  no-break v u b e h = grind (arith, e, h)

  never : (v b : Bool) → b ≡ false → (v && b) ≡ false
  never v b e = grind (arith, e)

  same-flag : (u : Bool) → (u && not u) ≡ false
  same-flag u = grind arith

  unbroken : (ls : List Placed) (u v : Bool) → (v && not u) ≡ false → broken u ls ≡ false → broken v (made ls) ≡ false
  unbroken [] u v e h = refl
  unbroken (l ∷ ls) u v e h =
      let both = neither (u && is_none l.content) (broken (is_uid l) ls) h in
      by_uid (is_event_uid l) refl both.0 (λ w k. unbroken ls (is_uid l) w k both.1)
    where
      by_uid : (t : Bool) → is_event_uid l ≡ t → (u && is_none l.content) ≡ false → ((w : Bool) → (w && not (is_uid l)) ≡ false → broken w (made ls) ≡ false) →
          broken v (cond t [] (cond (ends_event l) (uid_line file l ∷ l ∷ []) (l ∷ [])) ++ made ls) ≡ false
      by_uid true is here later =
          let both = first-of (in_event l) (is_named name.Uid l) is in
          later v (rw (both.1, any_event l.path both.0) (never v false refl))
      by_uid false is here later = by_end (ends_event l) refl
        where
          by_end : (t : Bool) → ends_event l ≡ t → broken v (cond t (uid_line file l ∷ l ∷ []) (l ∷ []) ++ made ls) ≡ false
          by_end true ends =
              let some = has-content l.content (end-of (is_end l) _ (in_event l) ends) in
              rw (never v false refl, some, never (is_uid (uid_line file l)) false refl) (later (is_uid l) (same-flag (is_uid l)))
          by_end false ends = rw (no-break v u (is_none l.content) e here) (later (is_uid l) (same-flag (is_uid l)))

-- WHERE A FILE HAS PARTS, what is gathered with the UIDs that are made is that of the lines with them.
three : (a b c : Bool) → ((a && b) && c) ≡ true → (a ≡ true) × (b ≡ true)
three a b c e = (grind (arith, e), grind (arith, e))

not-true : (b : Bool) → not b ≡ true → b ≡ false
not-true b e = grind (arith, e)

pub together : (file : List ℕ) (ls : List Placed) → AreInPlace 0 [] ls → has_parts ls ≡ true →
    (is_well_nested (lines_with (Some file) ls) && not (breaks_off (lines_with (Some file) ls))) ≡ true
together file ls h e =
    let parts = three (is_well_nested ls) (not (breaks_off ls)) (list_all (is_certain ls) (all_events ls)) e in
    let nested = first-of (no_open (path_at_end [] ls)) (list_all nests ls) parts.0 in
    let whole = unbroken file ls false false refl (broken-off ls ∙ not-true (breaks_off ls) parts.1) in
    rw (at-end file ls 0 [] h, nested.0, all-nest file ls nested.1, ← broken-off (lines_with (Some file) ls), whole) refl

pub made_parts : (file bytes : List ℕ) → begins_with_fold bytes ≡ false → has_parts (placed bytes) ≡ true →
    parted_of (Some file) bytes ≡ Some (parted_lines (lines_with (Some file) (placed bytes)))
made_parts file bytes fold e =
    rw (fold, together file (placed bytes) (in_place None (unfolded bytes) 0 [] (unfolded-rises bytes) tt (omega arith)) e) refl
