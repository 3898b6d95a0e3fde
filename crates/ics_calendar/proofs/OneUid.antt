-- The events of one UID are given all or not at all: an event of an accepted part has one UID.
use Rattle.std.proofs.Common.{◌≡◌, ◌⊎◌, inl, inr, ℕ, Bool, true, false, ◌&&◌, ◌||◌, ◌==◌, List, [], ◌∷◌, ◌++◌, map, filter, refl, sym, ap, ◌∙◌}
use Rattle.std.proofs.Common.{arith}
use Rattle.std.proofs.Common.{append_assoc, cond, subst, ⊎_elim, None, Some, Option}
use Rattle.std.specs.Prelude.{codes, find, is_ok, not}
use Rattle.std.specs.List.{All, Contains, flat_map, list_all, list_any}
use Rattle.std.specs.Str.{bytes_eq}
use Rattle.std.specs.Cmp.Lexicographic.{bytes_decides}
use Rattle.std.proofs.lemmas.Bool.{and_parts}
use Rattle.std.proofs.lemmas.Bool.Decides.{nat_tests}
use Rattle.std.proofs.lemmas.List.{append-nil}
use Rattle.std.proofs.lemmas.List.Elements.{All-cons, All-head, All-nil, All-tail, Contains-append_cases, filter-append}
use Rattle.ics_text.specs.Bytes.{is_empty}
use Rattle.ics_values.specs.Plain.{text_of}
use Rattle.ics_text.specs.Unfolded.{unfolded}
use Rattle.ics_text.proofs.Rising.{unfolded-rises}
use Rattle.ics_components.specs.Components.{is_event_context}
use Rattle.ics_components.specs.declared.fault.Fault.{Fault}
use Rattle.ics_components.specs.declared.fault.FaultKind.{FaultKind}
use Rattle.ics_components.specs.declared.fault.FaultKind.TheVariants.{NotCalendar, Repeated}
use Rattle.ics_components.specs.declared.name.Name.{Name}
use Rattle.ics_components.specs.declared.name.Name.TheVariants as name
use Rattle.ics_components.specs.EventLines.{all_events, has_no_uid, has_uid, is_event, is_none_of, texts_in, uids_of, with_uids}
use Rattle.ics_components.specs.Faults.{kinds, stands}
use Rattle.ics_components.specs.FirstFault.{NoneStand, fault_at_end, first_fault, least_on, no_open}
use Rattle.ics_components.specs.Names.{same_name}
use Rattle.ics_components.specs.PartFaults.{is_within}
use Rattle.ics_components.specs.Parted.{AreInPlace, lines_with}
use Rattle.ics_components.specs.PlacedLines.{Open, Placed, all_named, beside, component, context_of, has, in_calendar, innermost}
use Rattle.ics_components.specs.PlacedLines.{is_begin, is_named, lines_in, name_on, placed, value}
use Rattle.ics_components.proofs.ItemFaults.{IsIn}
use Rattle.ics_components.proofs.Opened.{AllOpened, above, one-begin, opened}
use Rattle.ics_components.proofs.Placing.{in_place}
use Rattle.ics_components.proofs.Firsts.{finds-none}
use Rattle.ics_components.proofs.NameLemmas.{context-tests}
use Rattle.ics_components.proofs.Order.{inside}
use Rattle.ics_components.proofs.RestFaults.{right-or}
use Rattle.ics_file.specs.File.{FileSaid}
use Rattle.ics_calendar.specs.Files.{decide, later_fault, lines_say, said_of}
use Rattle.ics_calendar.specs.GivenFiles.{GivenFiles}
use Rattle.ics_calendar.specs.Parts.{IsGiven, Part, accepted_parts, frames, is_in_part, is_of, is_zone_of, lines_of, needs, parts_of}
use Rattle.ics_calendar.specs.Wanted.{each_once}
use Rattle.ics_calendar.proofs.PartLaws.{at-cons, here, is-here, kept, no-element, there}

-- ELEMENTS of lists.
module _ {X : Type 0} where
  pub was-kept : (p : X → Bool) (xs : List X) (x : X) → Contains (filter p xs) x → (p x ≡ true) × Contains xs x
  was-kept p [] x k = absurd (no-element x k)
  was-kept p (y ∷ ys) x k = by_test (λ h. let was = was-kept p ys x h in (was.0, there y ys x was.1)) (p y) refl k
    where
      by_test : (Contains (filter p ys) x → (p x ≡ true) × Contains (y ∷ ys) x) → (t : Bool) → p y ≡ t →
          Contains (cond t (y ∷ filter p ys) (filter p ys)) x → (p x ≡ true) × Contains (y ∷ ys) x
      by_test further true e h =
          ⊎_elim (λ (same : y ≡ x). (ap p (sym same) ∙ e, subst (λ z. Contains (z ∷ ys) x) (sym same) (here x ys))) further (at-cons y (filter p ys) x h)
      by_test further false e h = further h

  pub kept-inside : (p q : X → Bool) → ((x : X) → q x ≡ true → p x ≡ true) → (xs : List X) → filter q (filter p xs) ≡ filter q xs
  kept-inside p q h [] = refl
  kept-inside p q h (x ∷ xs) = by_tests (kept-inside p q h xs) (p x) (q x) refl refl
    where
      by_tests : filter q (filter p xs) ≡ filter q xs → (s t : Bool) → p x ≡ s → q x ≡ t →
          filter q (cond s (x ∷ filter p xs) (filter p xs)) ≡ cond t (x ∷ filter q xs) (filter q xs)
      by_tests again true true e f = rw f (ap (λ (ys : List X). x ∷ ys) again)
      by_tests again true false e f = rw f again
      by_tests again false true e f = let never : true ≡ false = sym (h x f) ∙ e in cc
      by_tests again false false e f = again

  pub any-of : (p : X → Bool) (xs : List X) (x : X) → Contains xs x → p x ≡ true → list_any p xs ≡ true
  any-of p [] x k e = absurd (no-element x k)
  any-of p (y ∷ ys) x k e = by_case (λ l. any-of p ys x l e) (at-cons y ys x k)
    where
      or-true : (t : Bool) → (t || true) ≡ true
      or-true true = refl
      or-true false = refl

      by_case : (Contains ys x → list_any p ys ≡ true) → (y ≡ x) ⊎ Contains ys x → (p y || list_any p ys) ≡ true
      by_case again (inl same) = ap (λ t. t || list_any p ys) (ap p same ∙ e)
      by_case again (inr l) = ap (λ t. p y || t) (again l) ∙ or-true (p y)

  pub none-kept : (p : X → Bool) (xs : List X) → list_any p xs ≡ false → filter p xs ≡ []
  none-kept p [] e = refl
  none-kept p (x ∷ xs) e = let again = none-kept p xs in grind (arith, again)

  -- at most one
  abbrev pub AtMostOne : List X → Type 0
  AtMostOne [] = Unit {0}
  AtMostOne (x ∷ []) = Unit {0}
  AtMostOne (x ∷ y ∷ ys) = ⊥

  one-kept : (p : X → Bool) (xs : List X) → AtMostOne xs → AtMostOne (filter p xs)
  one-kept p [] h = tt
  one-kept p (x ∷ []) h = by_test (p x)
    where
      by_test : (t : Bool) → AtMostOne (cond t (x ∷ []) [])
      by_test true = tt
      by_test false = tt
  one-kept p (x ∷ y ∷ ys) h = absurd h

module _ {X Y : Type 0} where
  pub was-mapped : (f : X → Y) (xs : List X) (y : Y) → Contains (map f xs) y → (x : X) × Contains xs x × (f x ≡ y)
  was-mapped f [] y k = absurd (no-element y k)
  was-mapped f (x ∷ xs) y k =
      ⊎_elim (λ e. (x, here x xs, e)) (λ h. let was = was-mapped f xs y h in (was.0, there x xs was.0 was.1, was.2)) (at-cons (f x) (map f xs) y k)

  pub was-flattened : (f : X → List Y) (xs : List X) (y : Y) → Contains (flat_map f xs) y → (x : X) × Contains xs x × Contains (f x) y
  was-flattened f [] y k = absurd (no-element y k)
  was-flattened f (x ∷ xs) y k =
      ⊎_elim (λ h. (x, here x xs, h)) (λ h. let was = was-flattened f xs y h in (was.0, there x xs was.0 was.1, was.2))
      (Contains-append_cases (f x) (flat_map f xs) y k)

  one-mapped : (f : X → Y) (xs : List X) → AtMostOne xs → AtMostOne (map f xs)
  one-mapped f [] h = tt
  one-mapped f (x ∷ []) h = tt
  one-mapped f (x ∷ y ∷ ys) h = absurd h

pub none-has : (us : List (List ℕ)) (uid : List ℕ) → is_none_of us ≡ true → list_any (bytes_eq uid) us ≡ true → ⊥
none-has [] uid e f = cc
none-has (x ∷ xs) uid e f = cc

pub was-once : (names : List (List ℕ)) (name : List ℕ) → Contains (each_once names) name → Contains names name
was-once [] name k = k
was-once (n ∷ ns) name k = by_case (was-once ns name) (at-cons n (filter (λ other. not (bytes_eq other n)) (each_once ns)) name k)
  where
    by_case : (Contains (each_once ns) name → Contains ns name) →
        (n ≡ name) ⊎ Contains (filter (λ other. not (bytes_eq other n)) (each_once ns)) name → Contains (n ∷ ns) name
    by_case again (inl e) = subst (λ m. Contains (m ∷ ns) name) (sym e) (here name ns)
    by_case again (inr h) = there n ns name (again (was-kept (λ other. not (bytes_eq other n)) (each_once ns) name h).1)

-- A PART is the events of a UID, or an event without one: what holds of these holds of each part.
pub each-part : (lines : List Placed) (P : Part → Type 0) →
    ((uid : List ℕ) → Contains (flat_map (uids_of lines) (all_events lines)) uid → P (filter (has_uid lines uid) (all_events lines))) →
    ((event : Placed) → Contains (all_events lines) event → has_no_uid lines event ≡ true → P (event ∷ [])) →
    (part : Part) → Contains (parts_of lines) part → P part
each-part lines P by-uid by-lone part k =
    ⊎_elim
    (λ m. let was = was-mapped of_uid (each_once uids) part m in subst P was.2 (by-uid was.0 (was-once uids was.0 was.1)))
    (λ m. let was = was-mapped (λ event. event ∷ []) lone part m in
    let event = was-kept (has_no_uid lines) (all_events lines) was.0 was.1 in
    subst P was.2 (by-lone was.0 event.1 event.0))
    (Contains-append_cases (map of_uid (each_once uids)) (map (λ event. event ∷ []) lone) part k)
  where
    of_uid : List ℕ → Part
    of_uid uid = filter (has_uid lines uid) (all_events lines)

    uids : List (List ℕ)
    uids = flat_map (uids_of lines) (all_events lines)

    lone : List Placed
    lone = filter (has_no_uid lines) (all_events lines)

-- A LINE stands in a list, in both words for it.
pub contains-in : (ks : List Placed) (k : Placed) → Contains ks k → IsIn k ks
contains-in [] k h = no-element k h
contains-in (m ∷ ms) k h = ⊎_elim (λ e. inl e) (λ l. inr (contains-in ms k l)) (at-cons m ms k h)

pub in-contains : (ks : List Placed) (k : Placed) → IsIn k ks → Contains ks k
in-contains [] k i = absurd i
in-contains (m ∷ ms) k i =
    ⊎_elim (λ (e : m ≡ k). subst (λ (x : Placed). Contains (x ∷ ms) k) (sym e) (here k ms)) (λ j. there m ms k (in-contains ms k j)) i

-- THE LINES of a file are in their places, also where UIDs are made.
in-places : (title file : List ℕ) → AreInPlace 0 [] (with_uids title (placed file))
in-places title file = by_test (list_all (has_no_uid (placed file)) (all_events (placed file)))
  where
    by_test : (t : Bool) → AreInPlace 0 [] (cond t (lines_with (Some title) (placed file)) (placed file))
    by_test true = in_place (Some title) (unfolded file) 0 [] (unfolded-rises file) tt (omega arith)
    by_test false = in_place None (unfolded file) 0 [] (unfolded-rises file) tt (omega arith)

-- a line that stands directly in a component
path-is : (ls : List Placed) → AreInPlace 0 [] ls → (l begin : Placed) → Contains ls l → Contains ls begin → is_begin begin ≡ true →
    innermost l.path ≡ begin.number → l.path ≡ inside begin
path-is ls h l begin k m b e = by_path l.path refl (opened ls h l (contains-in ls l k))
  where
    by_path : (path : List Open) → l.path ≡ path → AllOpened ls path → l.path ≡ inside begin
    by_path [] is all =
        let zero : 0 ≡ begin.number = ap innermost (sym is) ∙ e in
        let some = (above ls 0 [] h begin (contains-in ls begin m)).2 b in
        absurd (omega (arith, zero, some))
    by_path (c ∷ cs) is all =
        let o = all.0 in
        let same : o.begin ≡ begin = one-begin ls 0 [] h begin o.begin (contains-in ls begin m) o.among b (o.number ∙ ap innermost (sym is) ∙ e) in
        is ∙ (λ i. record { name = sym o.called i; begun = sym o.number i } ∷ sym o.path i) ∙ ap inside same

-- ONE UID: of lines without a fault two cannot say the UID of one event.
repeated-not : (p : FaultKind → Bool) → find p kinds ≡ None → p Repeated ≡ false
repeated-not p e = grind arith

pub calendar-not : (p : FaultKind → Bool) → find p kinds ≡ None → p NotCalendar ≡ false
calendar-not p e = grind arith

uid-is : (n : Name) → same_name n name.Uid ≡ true → n ≡ name.Uid
uid-is name.Uid e = refl
uid-is _ e = cc

abbrev uids : ℕ → List Placed → List Placed
uids begun ls = all_named name.Uid (lines_in begun ls)

abbrev EventAt : ℕ → Placed → Type 0
EventAt begun l = innermost l.path ≡ begun → is_event_context (context_of l.path) ≡ true

module _ (begun : ℕ) where
  uids-more : (before : List Placed) (l : Placed) (t u : Bool) → (innermost l.path == begun) ≡ t → is_named name.Uid l ≡ u →
      uids begun (before ++ l ∷ []) ≡ uids begun before ++ cond t (cond u (l ∷ []) []) []
  uids-more before l true true e f = simp (filter-append, e, f)
  uids-more before l true false e f = simp (filter-append, e, f)
  uids-more before l false u e f = simp (filter-append, e, append-nil)

  no-uid : (before : List Placed) (l : Placed) → EventAt begun l → innermost l.path ≡ begun → is_named name.Uid l ≡ true →
      stands Repeated (beside before l) l ≡ false → uids begun before ≡ []
  no-uid before l event at uid none =
      let is : name_on l.content ≡ name.Uid = uid-is (name_on l.content) uid in
      none-kept (is_named name.Uid) (lines_in begun before)
      (ap (λ k. has name.Uid (lines_in k before)) (sym at) ∙ (rw (event at, is) at none))

  one-more : (before : List Placed) (l : Placed) → EventAt begun l → least_on stands before l ≡ None → AtMostOne (uids begun before) →
      AtMostOne (uids begun (before ++ l ∷ []))
  one-more before l event none one = by_tests (innermost l.path == begun) (is_named name.Uid l) refl refl
    where
      by_tests : (t u : Bool) → (innermost l.path == begun) ≡ t → is_named name.Uid l ≡ u → AtMostOne (uids begun (before ++ l ∷ []))
      by_tests true true e f =
          let at : innermost l.path ≡ begun = grind (arith, nat_tests, e) in
          let empty = no-uid before l event at f (repeated-not (λ kind. stands kind (beside before l) l) none) in
          rw (uids-more before l true true e f, empty) tt
      by_tests true false e f = rw (uids-more before l true false e f, append-nil) one
      by_tests false u e f = rw (uids-more before l false u e f, append-nil) one

  one-uid : (ls before : List Placed) → NoneStand stands before ls → All (EventAt begun) ls → AtMostOne (uids begun before) →
      AtMostOne (uids begun (before ++ ls))
  one-uid [] before n a one = subst (λ w. AtMostOne (uids begun w)) (sym (append-nil before)) one
  one-uid (l ∷ ls) before n a one =
      subst (λ w. AtMostOne (uids begun w)) (append_assoc before (l ∷ []) ls)
      (one-uid ls (before ++ l ∷ []) n.1 (All-tail (EventAt begun) l ls a) (one-more before l (All-head (EventAt begun) l ls a) n.0 one))

-- an event in no calendar
pub no-calendar : (event : Placed) (ls : List Placed) → event.path ≡ [] → is_begin event ≡ true → component event ≡ codes "VEVENT" →
    stands NotCalendar ls event ≡ true
no-calendar event ls p b w = rw (p, b, w) refl

none-at : (before ls : List Placed) (l : Placed) → NoneStand stands before ls → Contains ls l → (b : List Placed) × (least_on stands b l ≡ None)
none-at before [] l n k = absurd (no-element l k)
none-at before (m ∷ ms) l n k =
    ⊎_elim (λ (e : m ≡ l). (before, subst (λ p. least_on stands before p ≡ None) e n.0)) (λ h. none-at (before ++ m ∷ []) ms l n.1 h) (at-cons m ms l k)

pub all-by : {X : Type 0} (P : X → Type 0) (xs : List X) → ((x : X) → Contains xs x → P x) → All P xs
all-by P [] h = All-nil P
all-by P (x ∷ xs) h = All-cons P x xs (h x (here x xs)) (all-by P xs (λ y k. h y (there x xs y k)))

-- AN EVENT OF A PART without a fault of the first round.
no-fault : (files : GivenFiles) (ls : List Placed) (first later : Option Fault) (said : FileSaid) → is_ok (decide first later said) ≡ true → first ≡ None
no-fault files ls None later said e = refl
no-fault files ls (Some fault) later said e = cc

module _ (files : GivenFiles) (title file : List ℕ) where
  abbrev lines : List Placed
  lines = with_uids title (placed file)

  module _ (part : Part) (event : Placed) (within : Contains part event) (known : Contains (all_events lines) event)
      (free : first_fault (lines_of lines part) ≡ None) where
    abbrev own : List Placed
    own = lines_of lines part

    none : NoneStand stands [] own
    none = (finds-none stands fault_at_end [] own free).0

    is : (is_event event ≡ true) × Contains lines event
    is = was-kept is_event lines event known

    begin : is_begin event ≡ true
    begin = (and_parts (is_begin event) (bytes_eq (component event) (codes "VEVENT")) (and_parts (in_calendar event || no_open event.path) _ is.0).1).0

    named : bytes_eq (component event) (codes "VEVENT") ≡ true
    named = (and_parts (is_begin event) (bytes_eq (component event) (codes "VEVENT")) (and_parts (in_calendar event || no_open event.path) _ is.0).1).1

    places : AreInPlace 0 [] lines
    places = in-places title file

    in-own : (l : Placed) → is_of event l ≡ true → is_in_part lines l part ≡ true
    in-own l e = any-of (λ event. needs lines event l) part event within
        (ap (λ t. t || (frames event l || list_any (λ begin. is_zone_of lines event begin && is_of begin l) lines)) e)

    own-event : Contains own event
    own-event = kept (λ l. is_in_part lines l part) lines event (in-own event (ap (λ t. t || is_within event.number event) same)) is.1
      where
        same : (event.number == event.number) ≡ true
        same = grind (arith, nat_tests)

    within-path : (path : List Open) → (innermost path == event.number) ≡ true → list_any (λ c. c.begun == event.number) path ≡ true
    within-path [] e =
        let some = (above lines 0 [] places event (contains-in lines event is.1)).2 begin in
        absurd (let zero : 0 ≡ event.number = grind (arith, nat_tests, e) in omega (arith, zero, some))
    within-path (c ∷ cs) e = ap (λ t. t || list_any (λ c. c.begun == event.number) cs) e

    same-lines : lines_in event.number own ≡ lines_in event.number lines
    same-lines =
        kept-inside (λ l. is_in_part lines l part) (λ l. innermost l.path == event.number)
        (λ l e. in-own l (right-or (l.number == event.number) (is_within event.number l) (within-path l.path e))) lines

    calendar : in_calendar event ≡ true
    calendar = by_test (in_calendar event) refl (event.path) refl (and_parts (in_calendar event || no_open event.path) _ is.0).0
      where
        by_test : (t : Bool) → in_calendar event ≡ t → (path : List Open) → event.path ≡ path → (in_calendar event || no_open event.path) ≡ true →
            in_calendar event ≡ true
        by_test true e path p h = e
        by_test false e [] p h =
            let at = none-at [] own event none own-event in
            let found = calendar-not (λ kind. stands kind (beside at.0 event) event) at.1 in
            let word : component event ≡ codes "VEVENT" = (bytes_decides (component event) (codes "VEVENT")).0 named in
            let never : true ≡ false = sym (no-calendar event (beside at.0 event) p begin word) ∙ found in
            cc
        by_test false e (c ∷ cs) p h = let never = rw (e, p) at h in cc

    event-at : (l : Placed) → Contains own l → EventAt event.number l
    event-at l k e =
        let path = path-is lines places l event (was-kept (λ l. is_in_part lines l part) lines l k).1 is.1 begin e in
        ap (λ p. is_event_context (context_of p)) path ∙ (context-tests (context_of event.path) (component event)).0 ∙ (λ i. calendar i && named i)

    pub one : AtMostOne (uids_of lines event)
    one =
        one-kept (λ (uid : List ℕ). not (is_empty uid)) (texts_in name.Uid lines event)
        (one-mapped (λ (line : Placed). text_of (value line)) (uids event.number lines)
        (subst (λ ls. AtMostOne (all_named name.Uid ls)) same-lines (one-uid event.number own [] none (all-by (EventAt event.number) own event-at) tt)))

  -- a UID that an event with at most one has is that
  the-uid : (us : List (List ℕ)) → AtMostOne us → (u v : List ℕ) → list_any (bytes_eq u) us ≡ true → list_any (bytes_eq v) us ≡ true → u ≡ v
  the-uid [] o u v e f = cc
  the-uid (x ∷ []) o u v e f =
      (bytes_decides u x).0 (alone (bytes_eq u x) e) ∙ sym ((bytes_decides v x).0 (alone (bytes_eq v x) f))
    where
      alone : (t : Bool) → (t || false) ≡ true → t ≡ true
      alone true e = refl
      alone false e = e
  the-uid (x ∷ y ∷ ys) o u v e f = absurd o

  pub all-or-none : (uid : List ℕ) (event other : Placed) → Contains (all_events lines) event → Contains (all_events lines) other →
      has_uid lines uid event ≡ true → has_uid lines uid other ≡ true → IsGiven files lines event → IsGiven files lines other
  all-or-none uid event other k l e f given =
      let was = was-kept (λ part. is_ok (lines_say files (lines_of lines part))) (parts_of lines) given.0 given.1 in
      each-part lines
      (λ part. is_ok (lines_say files (lines_of lines part)) ≡ true → Contains part event → Contains (accepted_parts files lines) part →
      IsGiven files lines other)
      by-uid alone given.0 was.1 was.0 given.2 given.1
    where
      by-uid : (m : List ℕ) → Contains (flat_map (uids_of lines) (all_events lines)) m →
          let part : Part = filter (has_uid lines m) (all_events lines) in
          is_ok (lines_say files (lines_of lines part)) ≡ true → Contains part event → Contains (accepted_parts files lines) part → IsGiven files lines other
      by-uid m u ok inside accepted =
          let part : Part = filter (has_uid lines m) (all_events lines) in
          let own : List Placed = lines_of lines part in
          let free : first_fault own ≡ None = no-fault files own (first_fault own) (later_fault files own) (said_of files own) ok in
          let has = (was-kept (has_uid lines m) (all_events lines) event inside).0 in
          let same : m ≡ uid = the-uid (uids_of lines event) (one part event inside k free) m uid has e in
          (part, accepted, kept (has_uid lines m) (all_events lines) other (rw same f) l)

      alone : (own : Placed) → Contains (all_events lines) own → has_no_uid lines own ≡ true →
          is_ok (lines_say files (lines_of lines (own ∷ []))) ≡ true → Contains (own ∷ []) event → Contains (accepted_parts files lines) (own ∷ []) →
          IsGiven files lines other
      alone own i none ok inside accepted =
          absurd (none-has (uids_of lines event) uid (ap (has_no_uid lines) (sym (is-here own event inside)) ∙ none) e)
