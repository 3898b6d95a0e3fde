-- Each event lies in a part, and each first fault is named.
use Rattle.std.proofs.Common.{◌≡◌, ◌⊎◌, inl, inr, ℕ, Bool, true, false, ◌||◌, List, [], ◌∷◌, ◌++◌, map, filter, refl, sym, ap, ◌∙◌, arith, cond, subst, ⊎_elim}
use Rattle.std.proofs.Common.{Result, Ok, Err, zero, suc}
use Rattle.std.specs.Prelude.{fold, is_ok, not}
use Rattle.std.specs.BTreeSet.{insert_key}
use Rattle.std.specs.Cmp.Lexicographic.{bytes_decides}
use Rattle.std.specs.List.{Contains, flat_map, list_any}
use Rattle.std.specs.Ordering.{match_ordering, nat_cmp}
use Rattle.std.specs.Str.{bytes_eq}
use Rattle.std.specs.declared.cmp.Ordering.{Ordering}
use Rattle.std.specs.declared.cmp.Ordering.TheVariants.{Less, Equal, Greater}
use Rattle.std.proofs.lemmas.List.Elements.{Contains-append_left, Contains-append_right, Contains-append_cases}
use Rattle.std.proofs.lemmas.Map.Lookups.{CmpEqualImpliesEq, exact_pairs, exact_unsigned}
use Rattle.ics_components.specs.contracts.fault.FaultKindOrd.TheImpl as order
use Rattle.ics_components.specs.declared.fault.Fault.{Fault}
use Rattle.ics_components.specs.declared.fault.FaultKind.{FaultKind}
use Rattle.ics_components.specs.EventLines.{all_events, has_no_uid, has_uid, is_none_of, uids_of, with_uids}
use Rattle.ics_components.specs.PlacedLines.{Placed, placed}
use Rattle.ics_file.specs.File.{FileSaid}
use Rattle.ics_calendar.specs.Files.{file_of, lines_say}
use Rattle.ics_calendar.specs.GivenFiles.{GivenFiles}
use Rattle.ics_calendar.specs.Parts.{IsGivenOrNamed, Part, accepted_parts, fault_cmp, fault_in, file_gives, in_order, is_parted, lines_of, parts_give}
use Rattle.ics_calendar.specs.Parts.{parts_of, rest_of}
use Rattle.ics_calendar.specs.Wanted.{each_once}
use Rattle.ics_calendar.proofs.Partly.{gives-none, gives-parts}

-- ELEMENTS of lists.
module _ {X : Type 0} where
  pub here : (x : X) (xs : List X) → Contains (x ∷ xs) x
  here x xs = (0, omega arith, refl)

  pub there : (y : X) (xs : List X) (x : X) → Contains xs x → Contains (y ∷ xs) x
  there y xs x k = Contains-append_right (y ∷ []) xs x k

  pub is-here : (y x : X) → Contains (y ∷ []) x → y ≡ x
  is-here y x (zero, less, e) = e
  is-here y x (suc n, less, e) = absurd (omega (arith, less))

  pub at-cons : (y : X) (xs : List X) (x : X) → Contains (y ∷ xs) x → (y ≡ x) ⊎ Contains xs x
  at-cons y xs x k = ⊎_elim (λ h. inl (is-here y x h)) (λ h. inr h) (Contains-append_cases (y ∷ []) xs x k)

  pub no-element : (x : X) → Contains [] x → ⊥
  no-element x (n, less, e) = omega (arith, less)

  pub kept : (p : X → Bool) (xs : List X) (x : X) → p x ≡ true → Contains xs x → Contains (filter p xs) x
  kept p [] x t k = k
  kept p (y ∷ ys) x t k = by_case (kept p ys x t) (at-cons y ys x k)
    where
      behind : (b : Bool) → Contains (filter p ys) x → Contains (cond b (y ∷ filter p ys) (filter p ys)) x
      behind true h = there y (filter p ys) x h
      behind false h = h

      by_case : (Contains ys x → Contains (filter p ys) x) → (y ≡ x) ⊎ Contains ys x → Contains (cond (p y) (y ∷ filter p ys) (filter p ys)) x
      by_case again (inl e) = rw (ap p e ∙ t) (subst (λ z. Contains (z ∷ filter p ys) x) (sym e) (here x (filter p ys)))
      by_case again (inr h) = behind (p y) (again h)

module _ {X Y : Type 0} where
  pub mapped : (f : X → Y) (xs : List X) (x : X) → Contains xs x → Contains (map f xs) (f x)
  mapped f [] x k = absurd (no-element x k)
  mapped f (y ∷ ys) x k =
      ⊎_elim (λ (e : y ≡ x). subst (λ z. Contains (f z ∷ map f ys) (f x)) (sym e) (here (f x) (map f ys)))
      (λ h. there (f y) (map f ys) (f x) (mapped f ys x h)) (at-cons y ys x k)

  pub flattened : (f : X → List Y) (xs : List X) (x : X) (y : Y) → Contains xs x → Contains (f x) y → Contains (flat_map f xs) y
  flattened f [] x y k h = absurd (no-element x k)
  flattened f (z ∷ zs) x y k h =
      ⊎_elim (λ (e : z ≡ x). Contains-append_left (f z) (flat_map f zs) y (subst (λ w. Contains (f w) y) (sym e) h))
      (λ l. Contains-append_right (f z) (flat_map f zs) y (flattened f zs x y l h)) (at-cons z zs x k)

pub once : (names : List (List ℕ)) (name : List ℕ) → Contains names name → Contains (each_once names) name
once [] name k = k
once (n ∷ ns) name k = by_case (once ns name) (at-cons n ns name k)
  where
    rest : List (List ℕ)
    rest = filter (λ other. not (bytes_eq other n)) (each_once ns)

    by_test : (t : Bool) → bytes_eq name n ≡ t → Contains (each_once ns) name → Contains (n ∷ rest) name
    by_test true e h = subst (λ m. Contains (m ∷ rest) name) ((bytes_decides name n).0 e) (here name rest)
    by_test false e h = there n rest name (kept (λ other. not (bytes_eq other n)) (each_once ns) name (rw e refl) h)

    by_case : (Contains ns name → Contains (each_once ns) name) → (n ≡ name) ⊎ Contains ns name → Contains (n ∷ rest) name
    by_case again (inl e) = subst (λ m. Contains (m ∷ rest) name) (sym e) (here name rest)
    by_case again (inr h) = by_test (bytes_eq name n) refl (again h)

-- FAULTS IN ORDER.
kind-exact : CmpEqualImpliesEq order.ghosts.cmp
kind-exact a b e = grind arith

pub fault-exact : CmpEqualImpliesEq fault_cmp
fault-exact a b e =
    ap (λ (p : ℕ × FaultKind). record { line = p.0; kind = p.1 })
    (exact_pairs nat_cmp order.ghosts.cmp exact_unsigned kind-exact (a.line, a.kind) (b.line, b.kind) e)

still-there : (faults : List Fault) (k fault : Fault) → Contains faults fault → Contains (insert_key fault_cmp faults k) fault
still-there [] k fault h = absurd (no-element fault h)
still-there (x ∷ xs) k fault h = by_order (still-there xs k fault) (fault_cmp k x)
  where
    by_order : (Contains xs fault → Contains (insert_key fault_cmp xs k) fault) → (r : Ordering) →
        Contains (match_ordering r (k ∷ x ∷ xs) (x ∷ xs) (x ∷ insert_key fault_cmp xs k)) fault
    by_order again Less = there k (x ∷ xs) fault h
    by_order again Equal = h
    by_order again Greater =
        ⊎_elim (λ (e : x ≡ fault). subst (λ z. Contains (z ∷ insert_key fault_cmp xs k) fault) (sym e) (here fault (insert_key fault_cmp xs k)))
        (λ l. there x (insert_key fault_cmp xs k) fault (again l)) (at-cons x xs fault h)

now-there : (faults : List Fault) (fault : Fault) → Contains (insert_key fault_cmp faults fault) fault
now-there [] fault = here fault []
now-there (x ∷ xs) fault = by_order (now-there xs fault) (fault_cmp fault x) refl
  where
    by_order : Contains (insert_key fault_cmp xs fault) fault → (r : Ordering) → fault_cmp fault x ≡ r →
        Contains (match_ordering r (fault ∷ x ∷ xs) (x ∷ xs) (x ∷ insert_key fault_cmp xs fault)) fault
    by_order again Less e = here fault (x ∷ xs)
    by_order again Equal e = subst (λ z. Contains (z ∷ xs) fault) (fault-exact fault x e) (here fault xs)
    by_order again Greater e = there x (insert_key fault_cmp xs fault) fault again

folded : (faults more : List Fault) (fault : Fault) → Contains faults fault ⊎ Contains more fault → Contains (fold (insert_key fault_cmp) faults more) fault
folded faults [] fault (inl h) = h
folded faults [] fault (inr h) = absurd (no-element fault h)
folded faults (k ∷ ks) fault (inl h) = folded (insert_key fault_cmp faults k) ks fault (inl (still-there faults k fault h))
folded faults (k ∷ ks) fault (inr h) = folded (insert_key fault_cmp faults k) ks fault (by_case (at-cons k ks fault h))
  where
    by_case : (k ≡ fault) ⊎ Contains ks fault → Contains (insert_key fault_cmp faults k) fault ⊎ Contains ks fault
    by_case (inl e) = inl (subst (λ z. Contains (insert_key fault_cmp faults z) fault) (sym e) (now-there faults fault))
    by_case (inr l) = inr l

pub ordered-has : (faults : List Fault) (fault : Fault) → Contains faults fault → Contains (in_order faults) fault
ordered-has faults fault h = folded [] faults fault (inr h)

-- EACH EVENT LIES IN A PART.
abbrev IsIn : List Placed → Placed → Type 0
IsIn lines event = (part : Part) × Contains (parts_of lines) part × Contains part event

in-part : (lines : List Placed) (event : Placed) → Contains (all_events lines) event → IsIn lines event
in-part lines event k = by_uids (uids_of lines event) refl
  where
    events : List Placed
    events = all_events lines

    alone : List Part
    alone = map (λ event. event ∷ []) (filter (has_no_uid lines) events)

    of_uids : List Part
    of_uids = map (λ uid. filter (has_uid lines uid) events) (each_once (flat_map (uids_of lines) events))

    by_uids : (uids : List (List ℕ)) → uids_of lines event ≡ uids → IsIn lines event
    by_uids [] e = (
      event ∷ [],
      Contains-append_right of_uids alone (event ∷ [])
          (mapped (λ event. event ∷ []) (filter (has_no_uid lines) events) event (kept (has_no_uid lines) events event (ap is_none_of e) k)),
      here event [],
    )
    by_uids (uid ∷ uids) e =
        let is : has_uid lines uid event ≡ true = ap (list_any (bytes_eq uid)) e
        ∙ ap (λ t. t || list_any (bytes_eq uid) uids) ((bytes_decides uid uid).1 refl) in
        let has : Contains (uids_of lines event) uid = subst (λ us. Contains us uid) (sym e) (here uid uids) in (
          filter (has_uid lines uid) events,
          Contains-append_left of_uids alone (filter (has_uid lines uid) events)
              (mapped (λ uid. filter (has_uid lines uid) events) (each_once (flat_map (uids_of lines) events)) uid
              (once (flat_map (uids_of lines) events) uid (flattened (uids_of lines) events event uid k has))),
          kept (has_uid lines uid) events event is k,
        )

pub given-or-named : (files : GivenFiles) (lines : List Placed) (fault : Fault) (event : Placed) → Contains (all_events lines) event →
    IsGivenOrNamed files lines (parts_give files lines fault).faults event
given-or-named files lines fault event k =
    let part = in-part lines event k in
    (part.0, part.1, part.2, by_answer part.0 part.1 (lines_say files (lines_of lines part.0)) refl)
  where
    named : List Fault
    named = flat_map (λ part. fault_in (lines_say files (lines_of lines part))) (parts_of lines)

    by_answer : (part : Part) → Contains (parts_of lines) part → (answer : Result FileSaid Fault) → lines_say files (lines_of lines part) ≡ answer →
        Contains (accepted_parts files lines) part
        ⊎ ((other : Fault) × (lines_say files (lines_of lines part) ≡ Err other) × Contains (parts_give files lines fault).faults other)
    by_answer part p (Ok said) e =
        inl (kept (λ part. is_ok (lines_say files (lines_of lines part))) (parts_of lines) part (ap is_ok e) p)
    by_answer part p (Err other) e =
        let has : Contains named other =
        flattened (λ part. fault_in (lines_say files (lines_of lines part))) (parts_of lines) part other p
        (subst (λ a. Contains (fault_in a) other) (sym e) (here other [])) in
        inr (
          other,
          e,
          ordered-has (fault ∷ (named ++ fault_in (lines_say files (rest_of lines)))) other
              (there fault (named ++ fault_in (lines_say files (rest_of lines))) other
              (Contains-append_left named (fault_in (lines_say files (rest_of lines))) other has)),
        )

-- THE FIRST FAULT of a refused file is named, whether it has parts or not.
pub first-named : (files : GivenFiles) (name file : List ℕ) (fault : Fault) → file_of files file ≡ Err fault →
    Contains (file_gives files name file).faults fault
first-named files name file fault e = by_parts (is_parted file) refl
  where
    by_parts : (t : Bool) → is_parted file ≡ t → Contains (file_gives files name file).faults fault
    by_parts true p =
        let lines : List Placed = with_uids name (placed file) in
        let others : List Fault =
        flat_map (λ part. fault_in (lines_say files (lines_of lines part))) (parts_of lines) ++ fault_in (lines_say files (rest_of lines)) in
        rw (gives-parts name file files fault e p) (ordered-has (fault ∷ others) fault (here fault others))
    by_parts false p = rw (gives-none name file files fault e p) (here fault [])

pub none-lost : (files : GivenFiles) (name file : List ℕ) (fault : Fault) → file_of files file ≡ Err fault → is_parted file ≡ true → (event : Placed) →
    Contains (all_events (with_uids name (placed file))) event →
    IsGivenOrNamed files (with_uids name (placed file)) (file_gives files name file).faults event
none-lost files name file fault e p event k =
    rw (gives-parts name file files fault e p) (given-or-named files (with_uids name (placed file)) fault event k)
