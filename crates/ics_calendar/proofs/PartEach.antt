-- Each part of a file is some of its events, at least one, and those that have the numbers of its events.
use Rattle.std.proofs.Common.{◌≡◌, ◌⊎◌, inl, inr, ℕ, Bool, true, false, ◌||◌, ◌==◌, List, [], ◌∷◌, filter, refl, sym, ap, ◌∙◌, arith, cond, subst}
use Rattle.std.specs.List.{Contains, flat_map}
use Rattle.std.proofs.lemmas.Bool.{eq-eqb, eqb-true, ne_eqb}
use Rattle.ics_components.specs.EventLines.{all_events, has_uid, is_event, uids_of}
use Rattle.ics_components.specs.Parted.{AreInPlace}
use Rattle.ics_components.specs.PlacedLines.{Open, Placed, path_behind}
use Rattle.ics_components.proofs.ItemFaults.{IsIn}
use Rattle.ics_components.proofs.Opened.{above, any-in, in-any, one-begin}
use Rattle.ics_components.proofs.RestFaults.{filter-in, in-filter, left-or}
use Rattle.ics_calendar.specs.Parts.{Part, parts_of}
use Rattle.ics_calendar.proofs.OneUid.{contains-in, each-part, was-flattened, was-kept}
use Rattle.ics_calendar.proofs.PartFirst.{IsPart, event-begins, filter-same, is_event_of, part-member}
use Rattle.ics_calendar.proofs.PartMembers.{uid_part}
use Rattle.ics_calendar.proofs.PartNumbers.{itself-in}
use Rattle.ics_calendar.proofs.PartsChosen.{same-truth}

pub some-event : (ls : List Placed) (part : Part) → Contains (parts_of ls) part → (event : Placed) × IsIn event part
some-event ls = each-part ls (λ part. (event : Placed) × IsIn event part) by-uid (λ event i none. (event, inl refl))
  where
    by-uid : (uid : List ℕ) → Contains (flat_map (uids_of ls) (all_events ls)) uid →
        (event : Placed) × IsIn event (filter (has_uid ls uid) (all_events ls))
    by-uid uid k =
        let was = was-flattened (uids_of ls) (all_events ls) uid k in
        (was.0, filter-in (has_uid ls uid) (all_events ls) was.0 (contains-in (all_events ls) was.0 was.1) (itself-in (uids_of ls was.0) uid was.2))

-- LINES THAT ARE CHOSEN by what holds of each.
pub none-of : (p : Placed → Bool) (ks : List Placed) → ((k : Placed) → IsIn k ks → p k ≡ false) → filter p ks ≡ []
none-of p [] each = refl
none-of p (k ∷ ks) each =
    ap (λ t. cond t (k ∷ filter p ks) (filter p ks)) (each k (inl refl)) ∙ none-of p ks (λ l i. each l (inr i))

-- an event of the file that has the number of one of the part is that
pub of-part : (ls : List Placed) → AreInPlace 0 [] ls → (part : Part) → IsPart ls part → (k : Placed) →
    IsIn k (filter (is_event_of part) (all_events ls)) → IsIn k part
of-part ls h part is k i =
    let own = in-filter (is_event_of part) (all_events ls) k i in
    let there = in-filter is_event ls k own.0 in
    let f = in-any (λ event. k.number == event.number) part own.1 in
    let m = part-member ls part is f.one f.among in
    let same : f.one ≡ k =
    one-begin ls 0 [] h k f.one there.0 m.0 (event-begins k there.1) (sym (eqb-true k.number f.one.number f.holds)) in
    subst (λ (x : Placed). IsIn x part) same f.among

chosen-itself : (ls : List Placed) → AreInPlace 0 [] ls → (p : Placed → Bool) →
    filter (is_event_of (filter p (all_events ls))) (all_events ls) ≡ filter p (all_events ls)
chosen-itself ls h p = filter-same (is_event_of part) p (all_events ls) (λ k i. same-truth (is_event_of part k) (p k) (into k i) (back k i))
  where
    part : Part
    part = filter p (all_events ls)

    into : (k : Placed) → IsIn k (all_events ls) → is_event_of part k ≡ true → p k ≡ true
    into k i e = (in-filter p (all_events ls) k (of-part ls h part (uid_part ls p) k (filter-in (is_event_of part) (all_events ls) k i e))).1

    back : (k : Placed) → IsIn k (all_events ls) → p k ≡ true → is_event_of part k ≡ true
    back k i e = any-in (λ event. k.number == event.number) part k (filter-in p (all_events ls) k i e) (eq-eqb k.number k.number refl)

lone-itself : (n : ℕ) (path : List Open) (ks : List Placed) → AreInPlace n path ks → (e : Placed) → IsIn e ks → is_event e ≡ true →
    filter (is_event_of (e ∷ [])) (filter is_event ks) ≡ e ∷ []
lone-itself n path [] h e i t = absurd i
lone-itself n path (m ∷ ms) h e i t = by_place (λ j. lone-itself m.number (path_behind m) ms h.4 e j t) i
  where
    mine : Placed → Bool
    mine = is_event_of (e ∷ [])

    behind : List Placed
    behind = filter is_event ms

    none : m ≡ e → filter mine behind ≡ []
    none same =
        none-of mine behind
        (λ k j. let two = in-filter is_event ms k j in
        let less = (above ms m.number (path_behind m) h.4 k two.0).2 (event-begins k two.1) in
        ap (λ t. t || false) (ne_eqb k.number e.number (λ equal. omega (arith, less, equal, ap (λ (x : Placed). x.number) same))))

    by_event : (t : Bool) → mine m ≡ false → filter mine (cond t (m ∷ behind) behind) ≡ filter mine behind
    by_event true other = ap (λ t. cond t (m ∷ filter mine behind) (filter mine behind)) other
    by_event false other = refl

    by_place : (IsIn e ms → filter mine behind ≡ e ∷ []) → (m ≡ e) ⊎ IsIn e ms → filter mine (cond (is_event m) (m ∷ behind) behind) ≡ e ∷ []
    by_place again (inl same) =
        let event : is_event m ≡ true = ap is_event same ∙ t in
        let itself : mine m ≡ true = left-or (m.number == e.number) false (eq-eqb m.number e.number (ap (λ (x : Placed). x.number) same)) in
        ap (λ t. filter mine (cond t (m ∷ behind) behind)) event
        ∙ ap (λ t. cond t (m ∷ filter mine behind) (filter mine behind)) itself
        ∙ (λ i. same i ∷ none same i)
    by_place again (inr j) =
        let less = (above ms m.number (path_behind m) h.4 e j).2 (event-begins e t) in
        by_event (is_event m) (ap (λ t. t || false) (ne_eqb m.number e.number (λ equal. omega (arith, less, equal)))) ∙ again j

-- THE EVENTS OF A PART are those of the file with their numbers.
pub part-itself : (ls : List Placed) → AreInPlace 0 [] ls → (part : Part) → Contains (parts_of ls) part →
    filter (is_event_of part) (all_events ls) ≡ part
part-itself ls h =
    each-part ls (λ part. filter (is_event_of part) (all_events ls) ≡ part) (λ uid k. chosen-itself ls h (has_uid ls uid))
    (λ event i none. let was = was-kept is_event ls event i in lone-itself 0 [] ls h event (contains-in ls event was.1) was.0)
