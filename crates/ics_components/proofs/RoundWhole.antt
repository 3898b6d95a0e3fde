-- One pass over the lines of a file gathers it event by event and time zone by time zone.
use Rattle.std.proofs.Common.{◌≡◌, ℕ, ◌<◌, Bool, true, false, ◌&&◌, ◌||◌, not, ◌==◌, List, [], ◌∷◌, refl, sym, ap, ◌∙◌, arith, cond}
use Rattle.std.proofs.Common.{Option, Some, None, map, filter, drop}
use Rattle.std.specs.Prelude.{is_none}
use Rattle.std.proofs.lemmas.Bool.Decides.{nat_tests}
use Rattle.std.specs.List.{flat_map, list_all}
use Rattle.std.specs.Option.{option_or}
use Rattle.std.proofs.lemmas.List.{append-nil}
use Rattle.ics_components.specs.declared.fault.Fault.{Fault}
use Rattle.ics_components.specs.EventLines.{all_events, breaks_off, is_certain, is_event, is_uid, is_well_nested, nests, path_at_end}
use Rattle.ics_components.specs.FirstFault.{no_open}
use Rattle.ics_components.specs.Observances.{begins_zone}
use Rattle.ics_components.specs.PartFaults.{is_within}
use Rattle.ics_components.specs.PlacedLines.{Placed, Open, component, innermost, is_begin, is_end, name_on, path_behind}
use Rattle.ics_components.specs.Parted.{AreInPlace, PartedComponentSeen, PartedFileSeen, begins_part, component_seen}
use Rattle.ics_components.specs.Parted.{fault_outside, first_there, is_outside, is_part, part_in, parted_lines, version_faults}
use Rattle.ics_components.specs.Inner.PartsPass.{PartSeen, RoundSeen, and_closed, and_outside, by_part, closes_part, goes_on}
use Rattle.ics_components.specs.Inner.PartsPass.{ended, parted_nothing, part_begun, part_left, round_begun, round_behind, round_over}
use Rattle.ics_components.specs.Inner.PartsPass.{with_line}
use Rattle.ics_components.proofs.Order.{Falls, falls-behind}
use Rattle.ics_components.proofs.PartPaths.{begins-by, closed-part, in-part, none-begins, part-open}
use Rattle.ics_components.proofs.PartsLemmas.{AreElsewhere, IsThere, and_lines, and_part, begin-line, begin-no-version, begun-kept, begun-part}
use Rattle.ics_components.proofs.PartsLemmas.{begun_of, behind-begun, behind-inner, behind-none, elsewhere, end-no-begin, ended-part, event-kept}
use Rattle.ics_components.proofs.PartsLemmas.{first-of, fresh, inner-line, marks, neither, never, other-line, part-line, part_after}

-- WHETHER THE FILE HAS PARTS, but for whose each event is.
abbrev nested : List Open → Bool → List Placed → Bool
nested path u [] = no_open path
nested path u (l ∷ ls) = nests l && (not (u && is_none l.content) && nested (path_behind l) (is_uid l) ls)

abbrev gathered : RoundSeen → List Placed → PartedFileSeen
gathered round [] = ended round.has_outside round.parted
gathered round (l ∷ ls) = gathered (round_behind l round) ls

abbrev pub are_certain : List PartedComponentSeen → Bool
are_certain events = list_all (λ event. event.is_certain) events

one-test : {X : Type 0} (a b n : Bool) (x y : X) → cond (a && b) (cond n x y) y ≡ cond (a && (b && n)) x y
one-test a b n x y = grind arith

round-is : (ls : List Placed) (round : RoundSeen) →
    round_over round ls ≡ cond (nested round.path round.is_behind_uid ls) (Some (gathered round ls)) None
round-is [] round = refl
round-is (l ∷ ls) round =
    ap (λ o. cond (goes_on l round) o None) (round-is ls (round_behind l round))
    ∙ one-test (nests l) (not (round.is_behind_uid && is_none l.content)) (nested (path_behind l) (is_uid l) ls) (Some (gathered (round_behind l round) ls))
    None

abbrev pub broken : Bool → List Placed → Bool
broken u [] = false
broken u (l ∷ ls) = (u && is_none l.content) || broken (is_uid l) ls

broken-on : (l : Placed) (ls : List Placed) → broken (is_uid l) ls ≡ breaks_off (l ∷ ls)
broken-on l [] = refl
broken-on l (m ∷ ms) = ap (λ t. (is_uid l && is_none m.content) || t) (broken-on m ms)

pub broken-off : (ls : List Placed) → broken false ls ≡ breaks_off ls
broken-off [] = refl
broken-off (l ∷ ls) = broken-on l ls

two-tests : (n k u e a b : Bool) → n ≡ ((e && a) && not b) → (k && (not u && n)) ≡ ((e && (k && a)) && not (u || b))
two-tests n k u e a b h = grind (arith, h)

nested-is : (ls : List Placed) (path : List Open) (u : Bool) →
    nested path u ls ≡ ((no_open (path_at_end path ls) && list_all nests ls) && not (broken u ls))
nested-is [] path u = grind arith
nested-is (l ∷ ls) path u =
    two-tests (nested (path_behind l) (is_uid l) ls) (nests l) (u && is_none l.content) (no_open (path_at_end (path_behind l) ls)) (list_all nests ls)
    (broken (is_uid l) ls) (nested-is ls (path_behind l) (is_uid l))

abbrev pub round_at : List Open → Option PartSeen → Bool → Bool → PartedFileSeen → RoundSeen
round_at path part u o had = record { path = path; part = part; is_behind_uid = u; has_outside = o; parted = had }

none-open : (path : List Open) → no_open path ≡ true → part_in path ≡ None
none-open [] e = refl
none-open (c ∷ cs) e = cc

or-empty : (o : Option Fault) → option_or o None ≡ o
or-empty o = grind arith

no-more : (had : PartedFileSeen) → had ≡ and_lines had []
no-more had = simp (append-nil, or-empty)

-- whether one of the lines is of no event and no time zone
abbrev outside_in : Bool → List Placed → Bool
outside_in o [] = o
outside_in o (l ∷ ls) = outside_in (o || is_outside l) ls

abbrev all_gathered : Bool → PartedFileSeen → List Placed → PartedFileSeen
all_gathered o had ls = ended (outside_in o ls) (and_lines had ls)

-- THE ROUND GATHERS what the lines say.
abbrev Gathers : List Placed → Type 0
Gathers ls =
    (n : ℕ) (path : List Open) (part : Option PartSeen) (u o : Bool) (had : PartedFileSeen) → IsThere (round_at path part u o had) n →
    AreInPlace n path ls → no_open (path_at_end path ls) ≡ true →
    gathered (round_at path part u o had) ls ≡ all_gathered o (and_part part ls had) ls

module _ (l : Placed) (ls : List Placed) (again : Gathers ls) (falls : Falls l.path) (inner : innermost l.path < l.number)
    (h : AreInPlace l.number (path_behind l) ls) (end : no_open (path_at_end (path_behind l) ls) ≡ true) (round : RoundSeen) where
  abbrev had : PartedFileSeen
  had = round.parted

  next : (part : Option PartSeen) (o : Bool) (had : PartedFileSeen) → part_in (path_behind l) ≡ begun_of part →
      gathered (round_at (path_behind l) part (is_uid l) o had) ls ≡ all_gathered o (and_part part ls had) ls
  next part o had fits =
      let moved = falls-behind l falls inner in
      again l.number (path_behind l) part (is_uid l) o had (record { falls = moved.0; inner = moved.1; fits = fits }) h end

  -- a line of an event or of a time zone is not outside
  inside : (o : Bool) → is_outside l ≡ false → o ≡ (o || is_outside l)
  inside o e = grind (arith, e)

  all-inside : (one more : PartedFileSeen) → is_outside l ≡ false → and_lines one ls ≡ and_lines more (l ∷ ls) →
      all_gathered round.has_outside one ls ≡ all_gathered round.has_outside more (l ∷ ls)
  all-inside one more e same = λ i. ended (outside_in (inside round.has_outside e i) ls) (same i)

  abbrev taken : Option PartSeen → RoundSeen
  taken part = let now : RoundSeen = by_part part l round in record now { path = path_behind l; is_behind_uid = is_uid l }

  -- a line of the event or the time zone that is open
  line-of : (part : PartSeen) → part_in l.path ≡ Some part.notes.begun →
      gathered (taken (Some part)) ls ≡ all_gathered round.has_outside (and_part (Some part) (l ∷ ls) had) (l ∷ ls)
  line-of part p = by_end (closes_part l part) refl
    where
      b : ℕ
      b = part.notes.begun

      within : is_within b l ≡ true
      within = part-open l.path b p

      more : PartedFileSeen
      more = and_part (Some part) (l ∷ ls) had

      within-one : is_outside l ≡ false
      within-one = rw p (never (not (begins_part l)))

      rest : and_lines more ls ≡ and_lines more (l ∷ ls)
      rest =
          let none : begins_part l ≡ false = begins-by l ∙ ap (λ t. is_begin l && t) (none-begins l.path b p (component l)) ∙ never (is_begin l) in
          let two = neither (is_event l) (begins_zone l) none in
          inner-line l ls falls inner h more b two.0 two.1 (rw ((in-part l.path b p).0) refl) p

      by_end : (t : Bool) → closes_part l part ≡ t →
          gathered (round_at (path_behind l) (part_left t (with_line l part)) (is_uid l) round.has_outside (cond t (and_closed (with_line l part) had) had)) ls
          ≡ all_gathered round.has_outside more (l ∷ ls)
      by_end false e =
          next (Some (with_line l part)) round.has_outside had (behind-inner l b p e ∙ ap Some (sym (begun-kept l part.notes)))
          ∙ all-inside (and_part (Some (with_line l part)) ls had) more within-one (ap (λ m. and_lines m ls) (part-line l ls part had within) ∙ rest)
      by_end true e =
          let ends = first-of (is_end l) (innermost l.path == b) e in
          let out = closed-part l.path b falls p ends.1 in
          let path : path_behind l ≡ drop 1 l.path = rw (end-no-begin (name_on l.content) ends.0, ends.0) refl in
          let gone = elsewhere ls b l.number (path_behind l) (some b ends.1) (less b ends.1) (rw path out.1) h in
          next None round.has_outside (and_closed (with_line l part) had) (ap part_in path ∙ out.0)
          ∙ all-inside (and_closed (with_line l part) had) more within-one
          (ap (λ m. and_lines m ls) (closed-now gone ∙ part-line l ls part had within) ∙ rest)
        where
          some : (b : ℕ) → (innermost l.path == b) ≡ true → 0 < b
          some b e = grind arith

          less : (b : ℕ) → (innermost l.path == b) ≡ true → b < l.number
          less b e = grind (arith, nat_tests, e, inner)

          closed-now : AreElsewhere part.notes.begun ls → and_closed (with_line l part) had ≡ and_part (Some (with_line l part)) ls had
          closed-now gone =
              rw (ended-part ls (with_line l part) (rw (begun-kept l part.notes) gone)) refl

  -- any other line
  line-begun : begins_part l ≡ true → part_in l.path ≡ None → gathered (taken (Some (fresh l))) ls ≡ all_gathered round.has_outside had (l ∷ ls)
  line-begun begins p =
      let both = first-of (is_begin l) (is_part l.path (component l)) (sym (begins-by l) ∙ begins) in
      let mine : innermost (path_behind l) ≡ l.number = rw (both.0) refl in
      let goes : closes_part l (fresh l) ≡ false = ap (λ t. t && (innermost l.path == l.number)) ((marks (name_on l.content) both.0).0) in
      let own : PartSeen = with_line l (fresh l) in
      ap (λ t. gathered (round_at (path_behind l) (part_left t own) (is_uid l) round.has_outside (cond t (and_closed own had) had)) ls) goes
      ∙ next (Some own) round.has_outside had (behind-begun l both.0 both.1 p ∙ ap Some (sym (begun-kept l (fresh l).notes)))
      ∙ all-inside (and_part (Some own) ls had) had (rw begins refl)
      (rw (event-kept l (fresh l).notes)
      (begin-line l ls falls inner h had (part_after (with_line l (fresh l)) ls) (begun-part l ls inner mine h) begins (begin-no-version l both.0)))

  outside-now : (o : Bool) → begins_part l ≡ false → part_in l.path ≡ None → true ≡ (o || is_outside l)
  outside-now o none p = rw (none, p) (always o)
    where
      always : (o : Bool) → true ≡ (o || true)
      always o = grind arith

  line-outside : begins_part l ≡ false → part_in l.path ≡ None → gathered (taken None) ls ≡ all_gathered round.has_outside had (l ∷ ls)
  line-outside none p =
      let two = neither (is_event l) (begins_zone l) none in
      let same = other-line l ls falls inner h had two.0 two.1 p in
      next None true (and_outside l had) (behind-none l none p)
      ∙ (λ i. ended (outside_in (outside-now round.has_outside none p i) ls) (same i))

  line-free : part_in l.path ≡ None → gathered (taken (part_begun l)) ls ≡ all_gathered round.has_outside had (l ∷ ls)
  line-free p = by_test (begins_part l) refl
    where
      by_test : (t : Bool) → begins_part l ≡ t → gathered (taken (cond t (Some (fresh l)) None)) ls ≡ all_gathered round.has_outside had (l ∷ ls)
      by_test true e = line-begun e p
      by_test false e = line-outside e p

gathers : (ls : List Placed) → Gathers ls
gathers [] n path None u o had there h end = ap (ended o) (no-more had)
gathers [] n path (Some part) u o had there h end = let none = none-open path end in let fits = there.fits in cc
gathers (l ∷ ls) n path None u o had there h end =
    line-free l ls (gathers ls) (rw (h.0) there.falls) (rw (h.0) h.3) h.4 end (round_at path None u o had) (rw (h.0) there.fits)
gathers (l ∷ ls) n path (Some part) u o had there h end =
    line-of l ls (gathers ls) (rw (h.0) there.falls) (rw (h.0) h.3) h.4 end (round_at path (Some part) u o had) part (rw (h.0) there.fits)

-- WHERE THE LINES END.
abbrev some_line : List Placed → Bool
some_line [] = false
some_line (l ∷ ls) = true

outside-found : (o : Bool) (ls : List Placed) → outside_in o ls ≡ (o || some_line (filter is_outside ls))
outside-found o [] = grind arith
outside-found o (l ∷ ls) = outside-found (o || is_outside l) ls ∙ by_test o (is_outside l) (filter is_outside ls)
  where
    by_test : (o t : Bool) (xs : List Placed) → ((o || t) || some_line xs) ≡ (o || some_line (cond t (l ∷ xs) xs))
    by_test true t xs = refl
    by_test false true xs = refl
    by_test false false xs = refl

abbrev with_these : List Placed → List Placed → Option Fault → PartedFileSeen
with_these ls zones first = record {
  events = map (component_seen ls) (all_events ls);
  zones = map (component_seen ls) zones;
  calendars = flat_map version_faults ls;
  outside = first;
}

ended-lines : (ls : List Placed) → all_gathered false parted_nothing ls ≡ parted_lines ls
ended-lines ls = ap (λ o. ended o (and_lines parted_nothing ls)) (outside-found false ls) ∙ by_lines (filter is_outside ls) (filter begins_zone ls)
  where
    by_lines : (others zones : List Placed) →
        ended (some_line others) (with_these ls zones (first_there others)) ≡ with_these ls zones (fault_outside others zones)
    by_lines [] [] = refl
    by_lines [] (zone ∷ zones) = refl
    by_lines (other ∷ others) zones = refl

-- THE WHOLE ROUND.
pub all-mapped : (lines es : List Placed) → are_certain (map (component_seen lines) es) ≡ list_all (is_certain lines) es
all-mapped lines [] = refl
all-mapped lines (e ∷ es) = ap (λ t. is_certain lines e && t) (all-mapped lines es)

pub round_whole : (ls : List Placed) → AreInPlace 0 [] ls →
    round_over round_begun ls ≡ cond (is_well_nested ls && not (breaks_off ls)) (Some (parted_lines ls)) None
round_whole ls h = round-is ls round_begun ∙ by_nesting (nested [] false ls) refl
  where
    kinds : nested [] false ls ≡ (is_well_nested ls && not (breaks_off ls))
    kinds = nested-is ls [] false ∙ ap (λ t. is_well_nested ls && not t) (broken-off ls)

    by_nesting : (t : Bool) → nested [] false ls ≡ t →
        cond t (Some (gathered round_begun ls)) None ≡ cond (is_well_nested ls && not (breaks_off ls)) (Some (parted_lines ls)) None
    by_nesting false e = ap (λ t. cond t (Some (parted_lines ls)) None) (sym e ∙ kinds)
    by_nesting true e =
        let both = first-of (is_well_nested ls) (not (breaks_off ls)) (sym kinds ∙ e) in
        let ends = first-of (no_open (path_at_end [] ls)) (list_all nests ls) both.0 in
        let all = gathers ls 0 [] None false false parted_nothing (record { falls = tt; inner = omega arith; fits = refl }) h ends.0 in
        ap Some (all ∙ ended-lines ls) ∙ ap (λ t. cond t (Some (parted_lines ls)) None) (sym e ∙ kinds)
