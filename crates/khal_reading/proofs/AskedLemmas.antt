-- Names that are asked for, each once, and what is found for them.
use Rattle.std.proofs.Common.{◌≡◌, ⊎_elim, inl, inr, ℕ, Bool, true, false, true≢false, ◌||◌, ◌&&◌, List, [], ◌∷◌, ◌++◌, Some, None, Ok, Err, refl, sym}
use Rattle.std.proofs.Common.{◌∙◌, ap, subst, append_assoc, append-nil}
use Rattle.std.specs.List.{list_any}
use Rattle.std.specs.Str.{bytes_eq}
use Rattle.std.specs.Cmp.Lexicographic.{nat_list_eq_equiv}
use Rattle.std.proofs.Math.Bool.{or-false, or_comm}
use Rattle.std.proofs.lemmas.Bool.{cond_both, false_from_ne_true, or_cases, or_from, or_left, or_parts, or_right}
use Rattle.std.proofs.lemmas.List.{map-append}
use Rattle.std.proofs.lemmas.List.Folds.{list_any-append}
use Rattle.std.proofs.lemmas.Slice.Eq.{bytes_eq-Decides}
use Rattle.ics_calendar.specs.GivenFiles.{no_files, GivenFiles}
use Rattle.ics_calendar.proofs.FilesGiven.{or-none}
use Rattle.khal_reading.specs.Asked.{and_name, and_names, given_files, given_from, is_unread, names_of, was_unread, with_found, Asked, AsksAll, AsksSome}
use Rattle.khal_reading.specs.Asked.{FindsEach}
use Rattle.khal_ports.specs.Finds.{found_of, FindAnswer, Found}
use Rattle.khal_ports.specs.declared.fault.SourceFault.TheVariants.{Memory}

-- the name is among these
abbrev pub IsIn : List ℕ → List (List ℕ) → Type 0
IsIn name names = list_any (bytes_eq name) names ≡ true

-- tests that agree on the names of a list
pub any-kept : (s t : List ℕ → Bool) (names : List (List ℕ)) → ((name : List ℕ) → IsIn name names → s name ≡ t name) → list_any s names ≡ list_any t names
any-kept s t [] same = refl
any-kept s t (x ∷ xs) same =
    rw (same x (or_left _ _ (nat_list_eq_equiv.refl x)), any-kept s t xs (λ name h. same name (or_right _ _ h)))

-- one more element
pub any-one : {X : Type 0} (s : X → Bool) (xs : List X) (x : X) → list_any s (xs ++ x ∷ []) ≡ (s x || list_any s xs)
any-one s xs x = rw (list_any-append s xs (x ∷ []), or-false (s x)) (or_comm (list_any s xs) (s x))

pub in-front : (name : List ℕ) (xs ys : List (List ℕ)) → IsIn name xs → IsIn name (xs ++ ys)
in-front name xs ys h = list_any-append (bytes_eq name) xs ys ∙ or_left _ _ h

pub in-back : (name : List ℕ) (xs ys : List (List ℕ)) → IsIn name ys → IsIn name (xs ++ ys)
in-back name xs ys h = list_any-append (bytes_eq name) xs ys ∙ or_right _ _ h

-- ---- each name once

and_names-append : (names xs ys : List (List ℕ)) → and_names names (xs ++ ys) ≡ and_names (and_names names xs) ys
and_names-append names [] ys = refl
and_names-append names (x ∷ xs) ys = and_names-append (and_name names x) xs ys

pub and_name-new : (names : List (List ℕ)) (name : List ℕ) → list_any (bytes_eq name) names ≡ false → and_name names name ≡ names ++ name ∷ []
and_name-new names name h = rw h refl

-- a name that is among those before is none that is new
apart : (name new : List ℕ) (names : List (List ℕ)) → IsIn name names → list_any (bytes_eq new) names ≡ false → bytes_eq name new ≡ false
apart name new names h fresh = false_from_ne_true (bytes_eq name new) (λ e.
    true≢false (sym (subst (λ (n : List ℕ). IsIn n names) ((bytes_eq-Decides name new).0 e) h) ∙ fresh))

-- these are names and others that are not among them
abbrev pub More : List (List ℕ) → List (List ℕ) → Type 0
More names all =
    (more : List (List ℕ)) × (all ≡ names ++ more) × ((name : List ℕ) → IsIn name names → list_any (bytes_eq name) more ≡ false)

and_name-more : (names : List (List ℕ)) (name : List ℕ) → More names (and_name names name)
and_name-more names name =
    cond_both (list_any (bytes_eq name) names) names (names ++ name ∷ []) (More names)
    (λ _. ([], sym (append-nil names), λ _ _. refl))
    (λ fresh. (name ∷ [], refl, λ x h. or_from (bytes_eq x name) false (apart x name names h fresh) refl))

pub and_names-more : (names wanted : List (List ℕ)) → More names (and_names names wanted)
and_names-more names [] = ([], sym (append-nil names), λ _ _. refl)
and_names-more names (x ∷ wanted) =
    let first = and_name-more names x in
    let then = and_names-more (and_name names x) wanted in (
      first.0 ++ then.0,
      then.1 ∙ (ap (λ (front : List (List ℕ)). front ++ then.0) first.1 ∙ append_assoc names first.0 then.0),
      λ name h. list_any-append (bytes_eq name) first.0 then.0
          ∙ or_from _ _ (first.2 name h) (then.2 name (subst (IsIn name) (sym first.1) (in-front name names first.0 h))),
    )

in-and_names : (name : List ℕ) (names wanted : List (List ℕ)) → IsIn name names → IsIn name (and_names names wanted)
in-and_names name names wanted h = let all = and_names-more names wanted in subst (IsIn name) (sym all.1) (in-front name names all.0 h)

in-and_name : (name x : List ℕ) (names : List (List ℕ)) → bytes_eq name x ≡ true → IsIn name (and_name names x)
in-and_name name x names same =
    cond_both (list_any (bytes_eq x) names) names (names ++ x ∷ []) (IsIn name)
    (λ there. subst (λ (n : List ℕ). IsIn n names) (sym ((bytes_eq-Decides name x).0 same)) there)
    (λ _. in-back name names (x ∷ []) (or_left _ _ same))

-- each of the wanted names is there
pub wanted-in : (name : List ℕ) (names wanted : List (List ℕ)) → IsIn name wanted → IsIn name (and_names names wanted)
wanted-in name names [] h = absurd (true≢false (sym h))
wanted-in name names (x ∷ wanted) h =
    ⊎_elim (λ e. in-and_names name (and_name names x) wanted (in-and_name name x names e)) (λ e. wanted-in name (and_name names x) wanted e) (or_cases _ _ h)

-- ---- what is given

pub given_from-append : (files : GivenFiles) (xs ys : List Asked) → given_from files (xs ++ ys) ≡ given_from (given_from files xs) ys
given_from-append files [] ys = refl
given_from-append files (x ∷ xs) ys = given_from-append (with_found files x) xs ys

with_found-other : (files : GivenFiles) (one : Asked) (other : List ℕ) → bytes_eq other one.0 ≡ false → with_found files one other ≡ files other
with_found-other files (name, Found.Given bytes) other e = rw e (or-none (files other))
with_found-other files one other e = refl

pub with_found-same : (files others : GivenFiles) (one : Asked) (other : List ℕ) → files other ≡ others other →
    with_found files one other ≡ with_found others one other
with_found-same files others (name, Found.Given bytes) other e = rw e refl
with_found-same files others one other e = e

pub names-append : (xs ys : List Asked) → names_of (xs ++ ys) ≡ names_of xs ++ names_of ys
names-append xs ys = map-append (λ (one : Asked). one.0) xs ys

pub given-one : (asked : List Asked) (one : Asked) (name : List ℕ) → given_files (asked ++ one ∷ []) name ≡ with_found (given_files asked) one name
given-one asked one name = ap (λ (files : GivenFiles). files name) (given_from-append no_files asked (one ∷ []))

pub unread-one : (asked : List Asked) (one : Asked) (name : List ℕ) →
    is_unread (asked ++ one ∷ []) name ≡ ((bytes_eq name one.0 && was_unread one.1) || is_unread asked name)
unread-one asked one name = any-one (λ (a : Asked). bytes_eq name a.0 && was_unread a.1) asked one

-- what is asked for under other names changes nothing for a name
pub given-kept : (files : GivenFiles) (more : List Asked) (name : List ℕ) → list_any (bytes_eq name) (names_of more) ≡ false →
    given_from files more name ≡ files name
given-kept files [] name h = refl
given-kept files (one ∷ more) name h =
    let parts = or_parts (bytes_eq name one.0) (list_any (bytes_eq name) (names_of more)) h in
    given-kept (with_found files one) more name parts.1 ∙ with_found-other files one name parts.0

pub unread-kept : (more : List Asked) (name : List ℕ) → list_any (bytes_eq name) (names_of more) ≡ false → is_unread more name ≡ false
unread-kept [] name h = refl
unread-kept (one ∷ more) name h =
    let parts = or_parts (bytes_eq name one.0) (list_any (bytes_eq name) (names_of more)) h in rw parts.0 (unread-kept more name parts.1)

-- ---- finds

module _ {Z : Type 0} (finds : Z → List ℕ → FindAnswer → Z → Type 0) where
  module _ (middle : Z) (ys : List Asked) (after : Z) (k : FindsEach finds middle ys after) where
    each-append : (before : Z) (xs : List Asked) → FindsEach finds before xs middle → FindsEach finds before (xs ++ ys) after
    each-append before [] h = subst (λ (z : Z). FindsEach finds z ys after) h k
    each-append before (x ∷ xs) h = (h.0, h.1, h.2, h.3, each-append h.1 xs h.4)

  pub none-asked : (asked : List Asked) (state : Z) → AsksAll finds asked [] state [] state
  none-asked asked state = record { each = refl; names = ap names_of (append-nil asked) }

  pub all-then-all : {asked : List Asked} {first then : List (List ℕ)} {before : Z} {more : List Asked} {middle : Z} {others : List Asked} {after : Z}
      → AsksAll finds asked first before more middle → AsksAll finds (asked ++ more) then middle others after →
      AsksAll finds asked (first ++ then) before (more ++ others) after
  all-then-all {asked} {before = before} {more = more} {middle = middle} {others = others} {after = after} h k = record {
    each = each-append middle others after k.each before more h.each;
    names = rw (← append_assoc asked more others, and_names-append, ← h.names) k.names;
  }

  pub all-then-some : {asked : List Asked} {first then : List (List ℕ)} {before : Z} {more : List Asked} {middle : Z} {others : List Asked} {after : Z}
      → AsksAll finds asked first before more middle → AsksSome finds (asked ++ more) then middle others after →
      AsksSome finds asked (first ++ then) before (more ++ others) after
  all-then-some {asked} {before = before} {more = more} {middle = middle} {others = others} h k = record {
    last = k.last;
    each = each-append middle others k.last k.each before more h.each;
    rest = k.rest;
    names = rw (← append_assoc asked more others, and_names-append, ← h.names) k.names;
    ended = k.ended;
  }

  pub all-some : {asked : List Asked} {wanted : List (List ℕ)} {before : Z} {more : List Asked} {after : Z} → AsksAll finds asked wanted before more after →
      AsksSome finds asked wanted before more after
  all-some {asked = asked} {more = more} {after = after} h = record {
    last = after;
    each = h.each;
    rest = [];
    names = append-nil (names_of (asked ++ more)) ∙ h.names;
    ended = inl refl;
  }

  -- what is wanted further is left
  pub some-front : (then : List (List ℕ)) {asked : List Asked} {first : List (List ℕ)} {before : Z} {more : List Asked} {after : Z} →
      AsksSome finds asked first before more after → AsksSome finds asked (first ++ then) before more after
  some-front then {asked = asked} {first = first} {more = more} {after = after} h =
      let further = and_names-more (and_names (names_of asked) first) then in
      record {
        last = h.last;
        each = h.each;
        rest = h.rest ++ further.0;
        names = rw (← append_assoc (names_of (asked ++ more)) h.rest further.0, h.names, and_names-append) (sym further.1);
        ended = ⊎_elim (λ same. inl same) (λ e. inr (e.0, e.1 ++ further.0, ap (λ (all : List (List ℕ)). all ++ further.0) e.2, e.3)) h.ended;
      }

  -- a name that is asked for
  pub one-asked : (asked : List Asked) (one : Asked) {before : Z} {answer : FindAnswer} {after : Z} → list_any (bytes_eq one.0) (names_of asked) ≡ false →
      finds before one.0 answer after → found_of answer ≡ Some one.1
      → AsksAll finds asked (one.0 ∷ []) before (one ∷ []) after
  one-asked asked one {answer = answer} {after = after} fresh f is = record {
    each = (answer, after, f, is, refl);
    names = names-append asked (one ∷ []) ∙ sym (and_name-new (names_of asked) one.0 fresh);
  }

  is-memory : (answer : FindAnswer) → None ≡ found_of answer → answer ≡ Err Memory
  is-memory (Err Memory) e = refl
  is-memory (Ok None) e = cc
  is-memory answer e = cc

  -- an allocation failed in the find
  pub one-failed : (asked : List Asked) (name : List ℕ) {before : Z} {answer : FindAnswer} {after : Z} → list_any (bytes_eq name) (names_of asked) ≡ false →
      finds before name answer after → None ≡ found_of answer
      → AsksSome finds asked (name ∷ []) before [] after
  one-failed asked name {before = before} {answer = answer} {after = after} fresh f is = record {
    last = before;
    each = refl;
    rest = name ∷ [];
    names = ap (λ (all : List Asked). names_of all ++ name ∷ []) (append-nil asked) ∙ sym (and_name-new (names_of asked) name fresh);
    ended = inr (name, [], refl, subst (λ (a : FindAnswer). finds before name a after) (is-memory answer is) f);
  }
