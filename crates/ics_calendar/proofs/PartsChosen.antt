-- THE EVENTS OF CHOSEN PARTS: those that are kept under the numbers of these parts are the events of these parts, in the order of the file.
use Rattle.std.proofs.Common.{◌≡◌, ◌⊎◌, inl, inr, ℕ, Bool, true, false, ◌==◌, List, [], ◌∷◌, ◌++◌, map, filter, refl, sym, ap, ◌∙◌}
use Rattle.std.proofs.Common.{Option, append_assoc, cond, subst, Result, Ok, Err}
use Rattle.std.specs.List.{Contains, flat_map, fold}
use Rattle.std.proofs.lemmas.Bool.{eq-eqb, eqb-true}
use Rattle.std.proofs.lemmas.Grind.{flat_map-append, fold-append}
use Rattle.std.proofs.lemmas.List.{append-nil, map-append}
use Rattle.std.proofs.lemmas.List.Elements.{Contains-append_right, filter-append}
use Rattle.std.proofs.lemmas.List.Folds.{flat_map-map}
use Rattle.ics_components.specs.declared.fault.Fault.{Fault}
use Rattle.ics_components.specs.EventLines.{all_events, has_no_uid, has_uid, is_event, uids_of}
use Rattle.ics_components.specs.ParsedFiles.{nothing_parsed}
use Rattle.ics_components.specs.ParsedFileSeen.{ParsedFileSeen}
use Rattle.ics_components.specs.Parted.{AreInPlace, PartedComponentSeen, begins_part, component_seen}
use Rattle.ics_components.specs.PlacedLines.{Placed}
use Rattle.ics_components.proofs.Folds.{item_read}
use Rattle.ics_components.proofs.ParsedItems.{parsed_in}
use Rattle.ics_components.proofs.ItemFaults.{IsIn}
use Rattle.ics_components.proofs.Opened.{any-in, in-any, one-begin}
use Rattle.ics_components.proofs.RestFaults.{in-filter, left-or}
use Rattle.ics_calendar.specs.Parts.{Part, parts_of}
use Rattle.ics_calendar.specs.Inner.PartsRead.{Labelled, labelled, nothing_labelled, sound_in, with_event}
use Rattle.ics_calendar.specs.Inner.SoundParts.{SoundEventSeen, of_parts}
use Rattle.ics_calendar.proofs.OneEach.{part-within}
use Rattle.ics_calendar.proofs.OneUid.{AtMostOne, contains-in, each-part, in-contains, none-has, was-flattened, was-kept}
use Rattle.ics_calendar.proofs.PartEvents.{sounds}
use Rattle.ics_calendar.proofs.PartFirst.{event-begins, is_event_of}
use Rattle.ics_calendar.proofs.PartKept.{IsKept, OneEach, OwnKept, own-kept, the-one}
use Rattle.ics_calendar.proofs.PartLaws.{flattened, here, is-here, kept}
use Rattle.ics_calendar.proofs.PartNumbers.{events}

pub same-truth : (a b : Bool) → (a ≡ true → b ≡ true) → (b ≡ true → a ≡ true) → a ≡ b
same-truth true b f g = sym (f refl)
same-truth false true f g = g refl
same-truth false false f g = refl

-- THE PART OF AN EVENT is by its UID, or the event alone.
module _ (lines : List Placed) (event : Placed) where
  abbrev IsPartOf : Part → Type 0
  IsPartOf part =
      ((uid : List ℕ) × (has_uid lines uid event ≡ true) × (filter (has_uid lines uid) (all_events lines) ≡ part))
      ⊎ ((has_no_uid lines event ≡ true) × ((event ∷ []) ≡ part))

  part-is : (part : Part) → Contains (parts_of lines) part → Contains part event → IsPartOf part
  part-is =
      each-part lines (λ part. Contains part event → IsPartOf part)
      (λ uid u h. inl (uid, (was-kept (has_uid lines uid) (all_events lines) event h).0, refl))
      (λ own i none h. let same : own ≡ event = is-here own event h in inr (ap (has_no_uid lines) (sym same) ∙ none, ap (λ e. e ∷ []) (sym same)))

  -- an event with at most one UID is in one part
  one-part : AtMostOne (uids_of lines event) → (a b : Part) → IsPartOf a → IsPartOf b → a ≡ b
  one-part one a b (inl p) (inl q) =
      let both : (p.0 ∷ []) ≡ (q.0 ∷ []) = sym (the-one (uids_of lines event) p.0 one p.1) ∙ the-one (uids_of lines event) q.0 one q.1 in
      let same : p.0 ≡ q.0 = cc in
      sym p.2 ∙ ap (λ uid. filter (has_uid lines uid) (all_events lines)) same ∙ q.2
  one-part one a b (inl p) (inr q) = absurd (none-has (uids_of lines event) p.0 q.0 p.1)
  one-part one a b (inr p) (inl q) = absurd (none-has (uids_of lines event) q.0 p.0 q.1)
  one-part one a b (inr p) (inr q) = sym p.1 ∙ q.1

-- a sound event, whatever its number
abbrev pub unnumbered : SoundEventSeen → SoundEventSeen
unnumbered sound = record sound { part = 0 }

module _ (needed : PartedComponentSeen → Option Fault) (lines : List Placed) (h : AreInPlace 0 [] lines) (chosen : ℕ → Bool) (holds : Part → Bool)
    (same : (part : Part) (n : ℕ) → Contains (parts_of lines) part → IsKept needed lines part n → holds part ≡ chosen n)
    (one : (part : Part) → Contains (parts_of lines) part → holds part ≡ true → OneEach needed lines part) where
  abbrev pub joined : Part
  joined = flat_map (λ part. part) (filter holds (parts_of lines))

  chosen-is : (event : Placed) (n : ℕ) → Contains (all_events lines) event → OwnKept needed lines event n → chosen n ≡ is_event_of joined event
  chosen-is event n k own = same-truth (chosen n) (is_event_of joined event) into back
    where
      into : chosen n ≡ true → is_event_of joined event ≡ true
      into e =
          any-in (λ other. event.number == other.number) joined event
          (contains-in joined event
          (flattened (λ part. part) (filter holds (parts_of lines)) own.0 event
          (kept holds (parts_of lines) own.0 (same own.0 n own.1 own.3 ∙ e) own.1) own.2)) (eq-eqb event.number event.number refl)

      back : is_event_of joined event ≡ true → chosen n ≡ true
      back e =
          let f = in-any (λ other. event.number == other.number) joined e in
          let was = was-flattened (λ part. part) (filter holds (parts_of lines)) f.one (in-contains joined f.one f.among) in
          let is = was-kept holds (parts_of lines) was.0 was.1 in
          let other = was-kept is_event lines f.one (part-within lines was.0 f.one is.1 was.2) in
          let mine = was-kept is_event lines event k in
          let alike : f.one ≡ event =
          one-begin lines 0 [] h event f.one (contains-in lines event mine.1) (contains-in lines f.one other.1) (event-begins event mine.0)
          (sym (eqb-true event.number f.one.number f.holds)) in
          let there : Contains was.0 event = subst (Contains was.0) alike was.2 in
          let equal : was.0 ≡ own.0 =
          one-part lines event (one was.0 is.1 is.0 event there) was.0 own.0 (part-is lines event was.0 is.1 there)
          (part-is lines event own.0 own.1 own.2) in
          sym (same own.0 n own.1 own.3) ∙ ap holds (sym equal) ∙ is.0

  one-chosen : (c : PartedComponentSeen) (n : ℕ) (r : Result ParsedFileSeen Fault) (t : Bool) → chosen n ≡ t →
      map unnumbered (of_parts chosen (sound_in n c r)) ≡ cond t (sound_in 0 c r) []
  one-chosen c n (Ok read) true e = rw e refl
  one-chosen c n (Ok read) false e = rw e refl
  one-chosen c n (Err f) true e = refl
  one-chosen c n (Err f) false e = refl

  abbrev seen : Placed → PartedComponentSeen
  seen event = component_seen lines event

  abbrev kept_of : List SoundEventSeen → List SoundEventSeen
  kept_of events = map unnumbered (of_parts chosen events)

  abbrev gathered_from : List Placed → List SoundEventSeen
  gathered_from rest = flat_map (λ event. sounds 0 (seen event)) (filter (is_event_of joined) rest)

  chosen-from : (front rest : List Placed) → all_events lines ≡ front ++ rest → (had : Labelled) → had ≡ labelled needed (map seen front) →
      kept_of (fold (with_event needed) had (map seen rest)).events ≡ kept_of had.events ++ gathered_from rest
  chosen-from front [] e had is = sym (append-nil (kept_of had.events))
  chosen-from front (event ∷ rest) e had is =
      chosen-from (front ++ event ∷ []) rest (e ∙ sym (append_assoc front (event ∷ []) rest)) next next-is
      ∙ ap (λ some. some ++ gathered_from rest) more
      ∙ by_test (is_event_of joined event)
    where
      next : Labelled
      next = with_event needed had (seen event)

      n : ℕ
      n = next.numbered.part

      next-is : next ≡ labelled needed (map seen (front ++ event ∷ []))
      next-is =
          ap (λ l. with_event needed l (seen event)) is
          ∙ sym (
          ap (labelled needed) (map-append seen front (event ∷ []))
          ∙ fold-append (with_event needed) nothing_labelled (map seen front) (seen event ∷ []))

      inside : Contains (all_events lines) event
      inside = subst (λ es. Contains es event) (sym e) (Contains-append_right front (event ∷ rest) event (here event rest))

      own : OwnKept needed lines event n
      own =
          subst (λ (l : Labelled). OwnKept needed lines event (with_event needed l (seen event)).numbered.part) (sym is)
          (own-kept needed lines event (map seen front) (map seen rest) (ap (map seen) e ∙ map-append seen front (event ∷ rest)) inside)

      more : kept_of next.events ≡ kept_of had.events ++ cond (is_event_of joined event) (sounds 0 (seen event)) []
      more =
          ap (map unnumbered) (filter-append (λ (sound : SoundEventSeen). chosen sound.part) had.events (sound_in n (seen event) (seen event).read))
          ∙ map-append unnumbered (of_parts chosen had.events) (of_parts chosen (sound_in n (seen event) (seen event).read))
          ∙ ap (λ some. kept_of had.events ++ some)
          (one-chosen (seen event) n (seen event).read (is_event_of joined event) (chosen-is event n inside own))

      by_test : (t : Bool) →
          (kept_of had.events ++ cond t (sounds 0 (seen event)) []) ++ gathered_from rest
          ≡ kept_of had.events
          ++ flat_map (λ event. sounds 0 (seen event)) (cond t (event ∷ filter (is_event_of joined) rest) (filter (is_event_of joined) rest))
      by_test true = append_assoc (kept_of had.events) (sounds 0 (seen event)) (gathered_from rest)
      by_test false = append_assoc (kept_of had.events) [] (gathered_from rest)

  -- What is kept of chosen parts is what is kept of their events.
  pub chosen-events : map unnumbered (of_parts chosen (labelled needed (events needed lines)).events)
      ≡ flat_map (λ event. sounds 0 (component_seen lines event)) (filter (is_event_of joined) (all_events lines))
  chosen-events = chosen-from [] (all_events lines) refl nothing_labelled refl

-- WHAT IS GATHERED of events, whatever their numbers.
pub same-flat : {X : Type 0} (f g : Placed → List X) (ks : List Placed) → ((k : Placed) → IsIn k ks → f k ≡ g k) → flat_map f ks ≡ flat_map g ks
same-flat f g [] each = refl
same-flat f g (k ∷ ks) each =
    let one = each k (inl refl) in let more = same-flat f g ks (λ m i. each m (inr i)) in λ i. one i ++ more i

flat-flat : {X Y Z : Type 0} (g : Y → List Z) (f : X → List Y) (xs : List X) → flat_map g (flat_map f xs) ≡ flat_map (λ x. flat_map g (f x)) xs
flat-flat g f [] = refl
flat-flat g f (x ∷ xs) = flat_map-append g (f x) (flat_map f xs) ∙ ap (λ zs. flat_map g (f x) ++ zs) (flat-flat g f xs)

pub sound-gathers : {X : Type 0} (f : ParsedFileSeen → List X) → f nothing_parsed ≡ [] → (n : ℕ) (lines : List Placed) (e : Placed) → is_event e ≡ true →
    flat_map (λ sound. f sound.read) (sounds n (component_seen lines e)) ≡ f (parsed_in (item_read lines e))
sound-gathers f none n lines e t =
    by_read (component_seen lines e).read ∙ ap (λ r. f (parsed_in r)) (sym own)
  where
    own : item_read lines e ≡ (component_seen lines e).read
    own = let begins : begins_part e ≡ true = left-or (is_event e) _ t in rw begins refl

    by_read : (r : Result ParsedFileSeen Fault) → flat_map (λ sound. f sound.read) (sound_in n (component_seen lines e) r) ≡ f (parsed_in r)
    by_read (Ok read) = append-nil (f read)
    by_read (Err fault) = sym none

module _ {X : Type 0} (f : ParsedFileSeen → List X) (none : f nothing_parsed ≡ []) (lines : List Placed) where
  -- of the events of a part
  pub all-gathers : (n : ℕ) (part : Part) → ((k : Placed) → IsIn k part → is_event k ≡ true) →
      flat_map (λ sound. f sound.read) (flat_map (sounds n) (map (component_seen lines) part)) ≡ flat_map (λ e. f (parsed_in (item_read lines e))) part
  all-gathers n part events =
      flat-flat (λ (sound : SoundEventSeen). f sound.read) (sounds n) (map (component_seen lines) part)
      ∙ flat_map-map (λ c. flat_map (λ (sound : SoundEventSeen). f sound.read) (sounds n c)) (component_seen lines) part
      ∙ same-flat (λ e. flat_map (λ (sound : SoundEventSeen). f sound.read) (sounds n (component_seen lines e))) (λ e. f (parsed_in (item_read lines e))) part
      (λ k i. sound-gathers f none n lines k (events k i))

  -- What is kept of chosen parts gathers what their events do.
  pub chosen-gathers : (part : Part) (sound : List SoundEventSeen) →
      map unnumbered sound ≡ flat_map (λ e. sounds 0 (component_seen lines e)) (filter (is_event_of part) (all_events lines)) →
      flat_map (λ sound. f sound.read) sound ≡ flat_map (λ e. f (parsed_in (item_read lines e))) (filter (is_event_of part) (all_events lines))
  chosen-gathers part sound is =
      sym (flat_map-map (λ (s : SoundEventSeen). f s.read) unnumbered sound)
      ∙ ap (flat_map (λ (s : SoundEventSeen). f s.read)) (is ∙ sym (flat_map-map (sounds 0) (component_seen lines) chosen))
      ∙ all-gathers 0 chosen (λ k i. (in-filter is_event lines k (in-filter (is_event_of part) (all_events lines) k i).0).1)
    where
      chosen : Part
      chosen = filter (is_event_of part) (all_events lines)
