-- The zone that a name stands for, behind zone files, is a matter of the name alone: of several lists of time zones that have the same zone of that name
-- each judges the checks that use it alike.
use Rattle.std.proofs.Common.{◌≡◌, ℕ, ◌+◌, Bool, true, false, ◌||◌, ◌&&◌, List, [], ◌∷◌, ◌++◌, length, map, filter, refl, sym, ap, ◌∙◌, append_assoc}
use Rattle.std.proofs.Common.{Option, Some, None, cond}
use Rattle.std.specs.Prelude.{is_some, option_map, slice_get}
use Rattle.std.specs.Cmp.Lexicographic.{bytes_decides}
use Rattle.std.specs.List.{All, cons_option, list_any, position, position_from}
use Rattle.std.specs.Option.{option_and_then, option_or}
use Rattle.std.specs.Str.{bytes_eq}
use Rattle.std.proofs.lemmas.Iterator.Adapters.{position_from-zero}
use Rattle.std.proofs.lemmas.List.{length-append}
use Rattle.std.proofs.lemmas.List.Elements.{All-head, All-tail}
use Rattle.ics_fields.specs.Locals.{local_seconds}
use Rattle.ics_zone.specs.ZoneSaid.{ZoneSaid, said_moment}
use Rattle.ics_components.specs.declared.deferred_check.DeferredCheck.{DeferredCheck}
use Rattle.ics_components.specs.declared.deferred_check.DeferredCheck.TheVariants as check
use Rattle.ics_components.specs.declared.deferred_check.Instant.{Instant}
use Rattle.ics_components.specs.declared.deferred_check.Instant.TheVariants as instant
use Rattle.ics_components.specs.declared.deferred_check.ZoneName.{ZoneName}
use Rattle.ics_components.specs.declared.fault.FaultKind.{FaultKind}
use Rattle.ics_components.specs.declared.fault.FaultKind.TheVariants.{BadEnd, BadZoneFile, UnknownZone}
use Rattle.ics_components.specs.declared.parsed_file.CalendarZone.{CalendarZone}
use Rattle.ics_components.specs.declared.parsed_file.LineCheck.{LineCheck}
use Rattle.ics_components.specs.FirstFault.{found}
use Rattle.ics_calendar.specs.DeferredChecks.{KnownZones, are_out, is_same, judged, moment_of, unknown_in, with_files}
use Rattle.ics_calendar.specs.GivenFiles.{GivenFiles, bad_names, given_names, given_zones, is_refused, zone_in}
use Rattle.ics_calendar.specs.Settled.{all_unknown, first_judged, known_in}

-- THE ZONE that a name stands for: the first of that name in that calendar, or else that of a zone file.
abbrev said_by_zone : CalendarZone → ZoneSaid
said_by_zone zone = ZoneSaid.ByObservances zone.observances

abbrev pub zone_named : ZoneName → List CalendarZone → Option ZoneSaid
zone_named used [] = None
zone_named used (zone ∷ zones) = cond (is_same used zone.name) (Some (said_by_zone zone)) (zone_named used zones)

abbrev given_for : GivenFiles → List ℕ → Bool → Option ZoneSaid
given_for files name t = cond t (zone_in (files name)) None

abbrev pub zone_with : List CalendarZone → GivenFiles → List (List ℕ) → ZoneName → Option ZoneSaid
zone_with zones files names used = option_or (zone_named used zones) (given_for files used.name (list_any (bytes_eq used.name) names))

-- an index stands for a zone, or neither is there
abbrev pick : List ZoneSaid → Option ℕ → Option ZoneSaid
pick zones o = option_and_then (slice_get zones) o

abbrev Is : List ZoneSaid → Option ℕ → Option ZoneSaid → Type 0
Is zones o zone = (pick zones o ≡ zone) × (is_some o ≡ is_some zone)

seam : (front : List ZoneSaid) (zone : ZoneSaid) (back : List ZoneSaid) → slice_get (front ++ zone ∷ back) (length front) ≡ Some zone
seam [] zone back = refl
seam (x ∷ front) zone back = seam front zone back

longer : (front : List ZoneSaid) (zone : ZoneSaid) (k : ℕ) → length front ≡ k → length (front ++ zone ∷ []) ≡ k + 1
longer front zone k e = length-append front (zone ∷ []) ∙ ap (λ n. n + 1) e

found-at : (used : ZoneName) (zones : List CalendarZone) (front back : List ZoneSaid) (k : ℕ) → length front ≡ k →
    Is (front ++ (map said_by_zone zones ++ back)) (position_from (is_same used) k (map (λ z. z.name) zones)) (zone_named used zones)
found-at used [] front back k e = (refl, refl)
found-at used (zone ∷ zones) front back k e =
    by_test (is_same used zone.name) (found-at used zones (front ++ said_by_zone zone ∷ []) back (k + 1) (longer front (said_by_zone zone) k e))
  where
    later : Option ℕ
    later = position_from (is_same used) (k + 1) (map (λ z. z.name) zones)

    behind : List ZoneSaid
    behind = map said_by_zone zones ++ back

    by_test : (t : Bool) → Is ((front ++ said_by_zone zone ∷ []) ++ behind) later (zone_named used zones) →
        Is (front ++ (said_by_zone zone ∷ behind)) (cond t (Some k) later) (cond t (Some (said_by_zone zone)) (zone_named used zones))
    by_test true again = (ap (slice_get (front ++ said_by_zone zone ∷ behind)) (sym e) ∙ seam front (said_by_zone zone) behind, refl)
    by_test false again =
        (ap (λ zones. pick zones later) (sym (append_assoc front (said_by_zone zone ∷ []) behind)) ∙ again.0, again.1)

module _ (files : GivenFiles) (name : List ℕ) where
  cond-none : (s : Bool) (x : Option ZoneSaid) → x ≡ None → cond s x None ≡ None
  cond-none true x e = e
  cond-none false x e = refl

  by_none : (n : List ℕ) (s t : Bool) → zone_in (files n) ≡ None → bytes_eq name n ≡ t → given_for files name s ≡ given_for files name (t || s)
  by_none n s true e is =
      let none : zone_in (files name) ≡ None = ap (λ m. zone_in (files m)) ((bytes_decides name n).0 is) ∙ e in
      cond-none s (zone_in (files name)) none ∙ sym none
  by_none n s false e is = refl

  given-at : (names : List (List ℕ)) (front : List ZoneSaid) (k : ℕ) → length front ≡ k →
      Is (front ++ given_zones files names) (position_from (bytes_eq name) k (given_names files names)) (given_for files name (list_any (bytes_eq name) names))
  given-at [] front k e = (refl, refl)
  given-at (n ∷ ns) front k e =
      by_zone (zone_in (files n)) refl (given-at ns front k e) (λ zone. given-at ns (front ++ zone ∷ []) (k + 1) (longer front zone k e))
    where
      rest : List (List ℕ)
      rest = given_names files ns

      answer : Option ZoneSaid
      answer = given_for files name (list_any (bytes_eq name) ns)

      by_test : (zone : ZoneSaid) → zone_in (files n) ≡ Some zone →
          Is ((front ++ zone ∷ []) ++ given_zones files ns) (position_from (bytes_eq name) (k + 1) rest) answer → (t : Bool) → bytes_eq name n ≡ t →
          Is (front ++ zone ∷ given_zones files ns) (cond t (Some k) (position_from (bytes_eq name) (k + 1) rest))
          (given_for files name (t || list_any (bytes_eq name) ns))
      by_test zone is again true same =
          let one : zone_in (files name) ≡ Some zone = ap (λ m. zone_in (files m)) ((bytes_decides name n).0 same) ∙ is in
          (ap (slice_get (front ++ zone ∷ given_zones files ns)) (sym e) ∙ seam front zone (given_zones files ns) ∙ sym one, sym (ap is_some one))
      by_test zone is again false same = (
        ap (λ zones. pick zones (position_from (bytes_eq name) (k + 1) rest)) (sym (append_assoc front (zone ∷ []) (given_zones files ns))) ∙ again.0,
        again.1,
      )

      by_zone : (o : Option ZoneSaid) → zone_in (files n) ≡ o → Is (front ++ given_zones files ns) (position_from (bytes_eq name) k rest) answer →
          ((zone : ZoneSaid) → Is ((front ++ zone ∷ []) ++ given_zones files ns) (position_from (bytes_eq name) (k + 1) rest) answer) →
          Is (front ++ cons_option o (given_zones files ns)) (position_from (bytes_eq name) k (cond (is_some o) (n ∷ rest) rest))
          (given_for files name (bytes_eq name n || list_any (bytes_eq name) ns))
      by_zone None is again further =
          let same = by_none n (list_any (bytes_eq name) ns) (bytes_eq name n) is refl in (again.0 ∙ same, again.1 ∙ ap is_some same)
      by_zone (Some zone) is again further = by_test zone is (further zone) (bytes_eq name n) refl

  -- whether a file is given for the name that is no zone file
  pub bad-is : (names : List (List ℕ)) → list_any (bytes_eq name) (bad_names files names) ≡ (list_any (bytes_eq name) names && is_refused (files name))
  bad-is [] = refl
  bad-is (n ∷ ns) = by_tests (is_refused (files n)) (bytes_eq name n) refl refl (bad-is ns)
    where
      others : Bool
      others = list_any (bytes_eq name) ns

      same : bytes_eq name n ≡ true → is_refused (files name) ≡ is_refused (files n)
      same is = ap (λ m. is_refused (files m)) ((bytes_decides name n).0 is)

      and-false : (s : Bool) → (s && false) ≡ false
      and-false true = refl
      and-false false = refl

      by_tests : (r t : Bool) → is_refused (files n) ≡ r → bytes_eq name n ≡ t →
          list_any (bytes_eq name) (bad_names files ns) ≡ (others && is_refused (files name)) →
          list_any (bytes_eq name) (cond r (n ∷ bad_names files ns) (bad_names files ns)) ≡ ((t || others) && is_refused (files name))
      by_tests true true e is again = ap (λ t. t || list_any (bytes_eq name) (bad_names files ns)) is ∙ sym (same is ∙ e)
      by_tests true false e is again = ap (λ t. t || list_any (bytes_eq name) (bad_names files ns)) is ∙ again
      by_tests false true e is again =
          let none : is_refused (files name) ≡ false = same is ∙ e in again ∙ ap (λ t. others && t) none ∙ and-false others ∙ sym none
      by_tests false false e is again = again

join : (zones : List ZoneSaid) (o p : Option ℕ) (a b : Option ZoneSaid) → Is zones o a → Is zones p b → Is zones (option_or o p) (option_or a b)
join zones None p None b i j = j
join zones None p (Some zone) b i j = let never : false ≡ true = i.1 in cc
join zones (Some k) p None b i j = let never : true ≡ false = i.1 in cc
join zones (Some k) p (Some zone) b i j = (i.0, refl)

position-zero : {X : Type 0} (test : X → Bool) (xs : List X) → position test xs ≡ position_from test 0 xs
position-zero test xs = position_from-zero test xs

known-with : (zones : List CalendarZone) (files : GivenFiles) (names : List (List ℕ)) (used : ZoneName) →
    Is (with_files (known_in zones) files names).zones ((with_files (known_in zones) files names).index used) (zone_with zones files names used)
known-with zones files names used =
    join (map said_by_zone zones ++ given_zones files names) (position (is_same used) (map (λ z. z.name) zones))
    (position_from (bytes_eq used.name) (length (map said_by_zone zones)) (given_names files names)) (zone_named used zones)
    (given_for files used.name (list_any (bytes_eq used.name) names)) (
      ap (pick (map said_by_zone zones ++ given_zones files names)) (position-zero (is_same used) (map (λ z. z.name) zones)) ∙ first.0,
      ap is_some (position-zero (is_same used) (map (λ z. z.name) zones)) ∙ first.1,
    )
    (given-at files used.name names (map said_by_zone zones) (length (map said_by_zone zones)) refl)
  where
    first : Is (map said_by_zone zones ++ given_zones files names) (position_from (is_same used) 0 (map (λ z. z.name) zones)) (zone_named used zones)
    first = found-at used zones [] (given_zones files names) 0 refl

pub known-alone : (zones : List CalendarZone) (used : ZoneName) → is_some ((known_in zones).index used) ≡ is_some (zone_named used zones)
known-alone zones used =
    ap is_some (position-zero (is_same used) (map (λ z. z.name) zones)) ∙ (found-at used zones [] [] 0 refl).1

-- OF CHOSEN TIME ZONES the first of a name is that of all, if all of that name are chosen.
pub zone-kept : (used : ZoneName) (keep : CalendarZone → Bool) (zones : List CalendarZone) →
    ((zone : CalendarZone) → is_same used zone.name ≡ true → keep zone ≡ true) → zone_named used (filter keep zones) ≡ zone_named used zones
zone-kept used keep [] h = refl
zone-kept used keep (zone ∷ zones) h = by_tests (keep zone) (is_same used zone.name) refl refl (zone-kept used keep zones h)
  where
    by_tests : (s t : Bool) → keep zone ≡ s → is_same used zone.name ≡ t → zone_named used (filter keep zones) ≡ zone_named used zones →
        zone_named used (cond s (zone ∷ filter keep zones) (filter keep zones)) ≡ cond t (Some (said_by_zone zone)) (zone_named used zones)
    by_tests true t e is again = ap (λ t. cond t (Some (said_by_zone zone)) (zone_named used (filter keep zones))) is
        ∙ ap (cond t (Some (said_by_zone zone))) again
    by_tests false true e is again = let never : true ≡ false = sym (h zone is) ∙ e in cc
    by_tests false false e is again = again

-- CHECKS ARE JUDGED ALIKE by two lists of time zones that have the same zone under each name that they use, where of a name without one both want it.
module _ (files : GivenFiles) (zones others : List CalendarZone) (names wanted : List (List ℕ)) where
  abbrev mine : KnownZones
  mine = with_files (known_in zones) files names

  abbrev theirs : KnownZones
  theirs = with_files (known_in others) files wanted

  abbrev pub IsAlike : ZoneName → Type 0
  IsAlike used =
      (zone_named used zones ≡ zone_named used others)
      × (zone_named used zones ≡ None → list_any (bytes_eq used.name) names ≡ list_any (bytes_eq used.name) wanted)

  abbrev pub InstantAlike : Instant → Type 0
  InstantAlike (instant.Utc local) = Unit {0}
  InstantAlike (instant.Zoned local used) = IsAlike used

  abbrev pub CheckAlike : DeferredCheck → Type 0
  CheckAlike check.End = Unit {0}
  CheckAlike (check.Zone used) = IsAlike used
  CheckAlike (check.Ends start end) = InstantAlike start × InstantAlike end

  zone-alike : (used : ZoneName) → IsAlike used → zone_with zones files names used ≡ zone_with others files wanted used
  zone-alike used h = by_zone (zone_named used zones) refl
    where
      by_zone : (o : Option ZoneSaid) → zone_named used zones ≡ o → zone_with zones files names used ≡ zone_with others files wanted used
      by_zone None e = λ i. option_or (h.0 i) (given_for files used.name (h.1 e i))
      by_zone (Some zone) e =
          ap (λ o. option_or o (given_for files used.name (list_any (bytes_eq used.name) names))) e
          ∙ sym (ap (λ o. option_or o (given_for files used.name (list_any (bytes_eq used.name) wanted))) (sym h.0 ∙ e))

  index-alike : (used : ZoneName) → IsAlike used → is_some (mine.index used) ≡ is_some (theirs.index used)
  index-alike used h =
      (known-with zones files names used).1 ∙ ap is_some (zone-alike used h) ∙ sym (known-with others files wanted used).1

  moment-alike : (i : Instant) → InstantAlike i → moment_of mine i ≡ moment_of theirs i
  moment-alike (instant.Utc local) h = refl
  moment-alike (instant.Zoned local used) h =
      ap (option_map (λ zone. said_moment zone (local_seconds local)))
      ((known-with zones files names used).0 ∙ zone-alike used h ∙ sym (known-with others files wanted used).0)

  pub judged-alike : (c : DeferredCheck) → CheckAlike c → judged mine c ≡ judged theirs c
  judged-alike check.End h = refl
  judged-alike (check.Ends start end) h = λ i. cond (are_out (moment-alike start h.0 i) (moment-alike end h.1 i)) (Some BadEnd) None
  judged-alike (check.Zone used) h = by_zone (zone_named used zones) refl
    where
      bad : List (List ℕ) → Bool
      bad some = list_any (bytes_eq used.name) (bad_names files some)

      kind : Bool → Bool → Option FaultKind
      kind known bad = cond known None (cond bad (Some BadZoneFile) (Some UnknownZone))

      by_zone : (o : Option ZoneSaid) → zone_named used zones ≡ o → kind (is_some (mine.index used)) (bad names) ≡ kind (is_some (theirs.index used))
          (bad wanted)
      by_zone None e =
          let same : bad names ≡ bad wanted =
          bad-is files used.name names ∙ ap (λ t. t && is_refused (files used.name)) (h.1 e) ∙ sym (bad-is files used.name wanted) in
          λ i. kind (index-alike used h i) (same i)
      by_zone (Some zone) e =
          let some : is_some (mine.index used) ≡ true =
          (known-with zones files names used).1
          ∙ ap (λ o. is_some (option_or o (given_for files used.name (list_any (bytes_eq used.name) names)))) e in
          ap (λ t. kind t (bad names)) some ∙ sym (ap (λ t. kind t (bad wanted)) (sym (index-alike used h) ∙ some))

  pub first-alike : (checks : List LineCheck) → All (λ w. CheckAlike w.check) checks → first_judged mine checks ≡ first_judged theirs checks
  first-alike [] h = refl
  first-alike (w ∷ ws) h =
      let one = judged-alike w.check (All-head (λ w. CheckAlike w.check) w ws h) in
      let more = first-alike ws (All-tail (λ w. CheckAlike w.check) w ws h) in
      λ i. found w.line (one i) (more i)

  -- the same names are unknown
  unknown-one : (c : DeferredCheck) → CheckAlike c → unknown_in (known_in zones).index c ≡ unknown_in (known_in others).index c
  unknown-one check.End h = refl
  unknown-one (check.Ends start end) h = refl
  unknown-one (check.Zone used) h =
      ap (λ t. cond t None (Some used.name)) (known-alone zones used ∙ ap is_some h.0 ∙ sym (known-alone others used))

  pub unknown-alike : (checks : List LineCheck) → All (λ w. CheckAlike w.check) checks →
      all_unknown (known_in zones).index checks ≡ all_unknown (known_in others).index checks
  unknown-alike [] h = refl
  unknown-alike (w ∷ ws) h =
      let one = unknown-one w.check (All-head (λ w. CheckAlike w.check) w ws h) in
      let more = unknown-alike ws (All-tail (λ w. CheckAlike w.check) w ws h) in
      λ i. cons_option (one i) (more i)
