-- A file all of whose lines are bare has parts, and none of its events has a UID.
use Rattle.std.proofs.Common.{◌≡◌, ◌⊎◌, inl, inr, ℕ, Bool, true, false, ◌&&◌, ◌||◌, not, ◌==◌, List, [], ◌∷◌, refl, sym, ap, ◌∙◌, arith, cond, subst}
use Rattle.std.proofs.Common.{None, map, filter}
use Rattle.std.specs.Prelude.{codes, is_none}
use Rattle.std.specs.List.{list_all, list_any}
use Rattle.std.specs.Str.{bytes_eq}
use Rattle.std.proofs.lemmas.Bool.{eqb-true}
use Rattle.ics_text.specs.Bytes.{is_empty}
use Rattle.ics_text.specs.Unfolded.{begins_with_fold, unfolded}
use Rattle.ics_text.proofs.Rising.{unfolded-rises}
use Rattle.ics_values.specs.Plain.{text_of}
use Rattle.ics_components.specs.Components.{is_calendar_context}
use Rattle.ics_components.specs.declared.name.Name.TheVariants as name
use Rattle.ics_components.specs.EventLines.{all_events, breaks_off, has_no_uid, has_parts, in_any_event, is_certain, is_event, is_none_of, is_uid}
use Rattle.ics_components.specs.EventLines.{is_well_nested, nests, path_at_end}
use Rattle.ics_components.specs.FirstFault.{no_open}
use Rattle.ics_components.specs.Inner.BareLines.{bare_over, is_bare, leaves_doubt}
use Rattle.ics_components.specs.Parted.{AreInPlace, LacksUids}
use Rattle.ics_components.specs.PlacedLines.{Open, Placed, begins, component, context_of, in_calendar, innermost, is_begin, is_named, lines_in, name_on}
use Rattle.ics_components.specs.PlacedLines.{path_behind, placed, value}
use Rattle.ics_components.proofs.ItemFaults.{IsIn}
use Rattle.ics_components.proofs.Opened.{AllOpened, above, one-begin, opened}
use Rattle.ics_components.proofs.Paths.{in_calendar_by}
use Rattle.ics_components.proofs.PartPaths.{deep-no-calendar}
use Rattle.ics_components.proofs.Placing.{in_place}
use Rattle.ics_components.proofs.RestFaults.{in-filter}
use Rattle.ics_components.proofs.RoundWhole.{broken, broken-off}
use Rattle.ics_components.proofs.Rounds.{uid-stays}

two-of : (a b : Bool) → (a && b) ≡ true → (a ≡ true) × (b ≡ true)
two-of a b e = (grind (arith, e), grind (arith, e))

never-both : (a b : Bool) → not (a && b) ≡ true → a ≡ true → b ≡ false
never-both a b e f = grind (arith, e, f)

neither : (a b : Bool) → (a || b) ≡ false → (a ≡ false) × (b ≡ false)
neither a b e = (grind (arith, e), grind (arith, e))

-- ALL LINES nest and are bare, and none is open at the end.
all-nest : (path : List Open) (ls : List Placed) → bare_over path ls ≡ true → (no_open (path_at_end path ls) && list_all nests ls) ≡ true
all-nest path [] e = both (no_open path) e
  where
    both : (a : Bool) → a ≡ true → (a && true) ≡ true
    both a e = grind (arith, e)
all-nest path (l ∷ ls) e =
    let here = two-of (is_bare l) (bare_over (path_behind l) ls) e in
    one-more (no_open (path_at_end (path_behind l) ls)) (nests l) (list_all nests ls) (two-of (nests l) _ here.0).0 (all-nest (path_behind l) ls here.1)
  where
    one-more : (a b c : Bool) → b ≡ true → (a && c) ≡ true → (a && (b && c)) ≡ true
    one-more a b c e f = grind (arith, e, f)

each-bare : (path : List Open) (ls : List Placed) → bare_over path ls ≡ true → (l : Placed) → IsIn l ls → is_bare l ≡ true
each-bare path [] e l i = absurd i
each-bare path (k ∷ ks) e l i =
    let here = two-of (is_bare k) (bare_over (path_behind k) ks) e in by_place here.0 (λ j. each-bare (path_behind k) ks here.1 l j) i
  where
    by_place : is_bare k ≡ true → (IsIn l ks → is_bare l ≡ true) → (k ≡ l) ⊎ IsIn l ks → is_bare l ≡ true
    by_place one later (inl same) = subst (λ (m : Placed). is_bare m ≡ true) same one
    by_place one later (inr j) = later j

no-doubt-in : (l : Placed) → is_bare l ≡ true → in_any_event l.path ≡ true → leaves_doubt l ≡ false
no-doubt-in l e a = never-both (in_any_event l.path) (leaves_doubt l) (two-of (nests l) _ e).1 a

-- NO UID BREAKS OFF: behind a UID of an event the lines stand in that event.
unbroken : (ls : List Placed) (n : ℕ) (path : List Open) (u : Bool) → (u ≡ true → in_any_event path ≡ true) → AreInPlace n path ls →
    bare_over path ls ≡ true → broken u ls ≡ false
unbroken [] n path u inner h e = refl
unbroken (l ∷ ls) n path u inner h e =
    let bare = two-of (is_bare l) (bare_over (path_behind l) ls) e in
    both (u && is_none l.content) (broken (is_uid l) ls) (here u refl bare.0)
    (unbroken ls l.number (path_behind l) (is_uid l) stays h.4 bare.1)
  where
    both : (a b : Bool) → a ≡ false → b ≡ false → (a || b) ≡ false
    both a b e f = grind (arith, e, f)

    here : (t : Bool) → u ≡ t → is_bare l ≡ true → (t && is_none l.content) ≡ false
    here false is bare = refl
    here true is bare = (neither (is_none l.content) _ (no-doubt-in l bare (ap in_any_event h.0 ∙ inner is))).0

    stays : is_uid l ≡ true → in_any_event (path_behind l) ≡ true
    stays uid =
        let is = two-of (is_named name.Uid l) (in_any_event l.path) uid in
        let no = uid-stays (name_on l.content) is.0 in
        rw (no.0, no.1) is.1

-- A LINE DIRECTLY IN AN EVENT is in an event.
module _ (ls : List Placed) (h : AreInPlace 0 [] ls) (event : Placed) (among : IsIn event ls) (is : is_event event ≡ true) where
  begun : begins (codes "VEVENT") event ≡ true
  begun = (two-of (in_calendar event || no_open event.path) (begins (codes "VEVENT") event) is).1

  called : bytes_eq (component event) (codes "VEVENT") ≡ true
  called = (two-of (is_begin event) (bytes_eq (component event) (codes "VEVENT")) begun).1

  -- an event is in a calendar, or in no component
  around : (c : Open) (path : List Open) → bytes_eq c.name (codes "VEVENT") ≡ true → (is_calendar_context (context_of path) || no_open path) ≡ true →
      in_any_event (c ∷ path) ≡ true
  around c [] e p = e
  around c (d ∷ []) e p =
      both (bytes_eq c.name (codes "VEVENT")) (bytes_eq d.name (codes "VCALENDAR")) e
      (sym (in_calendar_by d) ∙ first-one (is_calendar_context (context_of (d ∷ []))) p)
    where
      both : (a b : Bool) → a ≡ true → b ≡ true → (a && b) ≡ true
      both a b e f = grind (arith, e, f)

      first-one : (a : Bool) → (a || false) ≡ true → a ≡ true
      first-one a e = grind (arith, e)
  around c (d ∷ f ∷ fs) e p = let no = deep-no-calendar d f fs in absurd (never (is_calendar_context (context_of (d ∷ f ∷ fs))) no p)
    where
      never : (a : Bool) → a ≡ false → (a || false) ≡ true → ⊥
      never true e p = cc
      never false e p = cc

  directly-in : (l : Placed) → IsIn l ls → (innermost l.path == event.number) ≡ true → in_any_event l.path ≡ true
  directly-in l i e = by_path l.path (opened ls h l i) (eqb-true (innermost l.path) event.number e)
    where
      by_path : (path : List Open) → AllOpened ls path → innermost path ≡ event.number → in_any_event path ≡ true
      by_path [] all zero =
          let some = (above ls 0 [] h event among).2 (two-of (is_begin event) _ begun).0 in absurd (omega (arith, zero, some))
      by_path (c ∷ cs) all same =
          let o = all.0 in
          let one : o.begin ≡ event = one-begin ls 0 [] h event o.begin among o.among (two-of (is_begin event) _ begun).0 (o.number ∙ same) in
          around c cs (ap (λ n. bytes_eq n (codes "VEVENT")) (sym o.called ∙ ap component one) ∙ called)
          (ap (λ p. is_calendar_context (context_of p) || no_open p) (sym o.path ∙ ap (λ (k : Placed). k.path) one)
          ∙ (two-of (in_calendar event || no_open event.path) (begins (codes "VEVENT") event) is).0)

-- SO FAR AS LINES LEAVE NO DOUBT they say no UID.
no-doubts : (ks : List Placed) → ((l : Placed) → IsIn l ks → leaves_doubt l ≡ false) →
    list_any (λ line. is_none line.content || is_named name.RecurrenceId line) ks ≡ false
no-doubts [] each = refl
no-doubts (k ∷ ks) each =
    both (is_none k.content) (is_named name.RecurrenceId k) _ (list_any (λ line. is_none line.content || is_named name.RecurrenceId line) ks)
    (each k (inl refl)) (no-doubts ks (λ l i. each l (inr i)))
  where
    both : (a b c d : Bool) → (a || (b || c)) ≡ false → d ≡ false → ((a || b) || d) ≡ false
    both a b c d e f = grind (arith, e, f)

-- an empty value says no text
nothing-said : (bs : List ℕ) → is_empty bs ≡ true → is_empty (text_of bs) ≡ true
nothing-said [] e = refl
nothing-said (b ∷ bs) e = cc

abbrev uids_among : List Placed → List Placed
uids_among ks = filter (is_named name.Uid) ks

abbrev texts_of : List Placed → List (List ℕ)
texts_of ks = filter (λ uid. not (is_empty uid)) (map (λ line. text_of (value line)) ks)

no-texts : (ks : List Placed) → ((l : Placed) → IsIn l ks → leaves_doubt l ≡ false) → is_none_of (texts_of (uids_among ks)) ≡ true
no-texts [] each = refl
no-texts (k ∷ ks) each =
    by_name (is_named name.Uid k) refl
    (neither (is_named name.RecurrenceId k) _ (neither (is_none k.content) _ (each k (inl refl))).1).1 (no-texts ks (λ l i. each l (inr i)))
  where
    empty-is : (a b : Bool) → a ≡ true → (a && not b) ≡ false → b ≡ true
    empty-is a b e f = grind (arith, e, f)

    by_text : (t : Bool) → is_empty (text_of (value k)) ≡ t → t ≡ true → is_none_of (texts_of (uids_among ks)) ≡ true →
        is_none_of (cond (not t) (text_of (value k) ∷ texts_of (uids_among ks)) (texts_of (uids_among ks))) ≡ true
    by_text true is e again = again
    by_text false is e again = cc

    by_name : (t : Bool) → is_named name.Uid k ≡ t → (is_named name.Uid k && not (is_empty (value k))) ≡ false →
        is_none_of (texts_of (uids_among ks)) ≡ true → is_none_of (texts_of (cond t (k ∷ uids_among ks) (uids_among ks))) ≡ true
    by_name false is f again = again
    by_name true is f again =
        let none = nothing-said (value k) (empty-is (is_named name.Uid k) (is_empty (value k)) is f) in
        by_text (is_empty (text_of (value k))) refl none again

-- EACH EVENT of bare lines is certain, and has no UID.
one-certain : (a b c : Bool) → b ≡ false → c ≡ true → ((not a || not b) && c) ≡ true
one-certain a b c e f = grind (arith, e, f)

both-are : (a b : Bool) → a ≡ true → b ≡ true → (a && b) ≡ true
both-are a b e f = grind (arith, e, f)

three-are : (a b c : Bool) → a ≡ true → b ≡ false → c ≡ true → ((a && not b) && c) ≡ true
three-are a b c e f g = grind (arith, e, f, g)

module _ (ls : List Placed) (h : AreInPlace 0 [] ls) (bare : bare_over [] ls ≡ true) where
  leave-none : (event : Placed) → IsIn event ls → is_event event ≡ true → (l : Placed) → IsIn l (lines_in event.number ls) → leaves_doubt l ≡ false
  leave-none event among is l i =
      let j = in-filter (λ l. innermost l.path == event.number) ls l i in
      no-doubt-in l (each-bare [] ls bare l j.0) (directly-in ls h event among is l j.0 j.1)

  all-certain : (ks : List Placed) → ((event : Placed) → IsIn event ks → IsIn event ls × (is_event event ≡ true)) → list_all (is_certain ls) ks ≡ true
  all-certain [] each = refl
  all-certain (k ∷ ks) each =
      let two = each k (inl refl) in
      one-certain (has_no_uid ls k) _ (list_all (is_certain ls) ks) (no-doubts (lines_in k.number ls) (leave-none k two.0 two.1))
      (all-certain ks (λ e i. each e (inr i)))

  none-has : (ks : List Placed) → ((event : Placed) → IsIn event ks → IsIn event ls × (is_event event ≡ true)) → list_all (has_no_uid ls) ks ≡ true
  none-has [] each = refl
  none-has (k ∷ ks) each =
      let two = each k (inl refl) in
      both-are (has_no_uid ls k) (list_all (has_no_uid ls) ks) (no-texts (lines_in k.number ls) (leave-none k two.0 two.1))
      (none-has ks (λ e i. each e (inr i)))

  pub bare-parts : (has_parts ls ≡ true) × (list_all (has_no_uid ls) (all_events ls) ≡ true)
  bare-parts =
      let each = λ (event : Placed) (i : IsIn event (all_events ls)). in-filter is_event ls event i in
      let whole : breaks_off ls ≡ false = sym (broken-off ls) ∙ unbroken ls 0 [] false (λ e. cc) h bare in (
        three-are (is_well_nested ls) (breaks_off ls) (list_all (is_certain ls) (all_events ls)) (all-nest [] ls bare) whole (all-certain (all_events ls) each),
        none-has (all_events ls) each,
      )

not-folded : (b : Bool) → (b ≡ true → ⊥) → b ≡ false
not-folded true never = absurd (never refl)
not-folded false never = refl

pub lacks-uids : (bytes : List ℕ) → (begins_with_fold bytes ≡ true → ⊥) → bare_over [] (placed bytes) ≡ true → LacksUids bytes
lacks-uids bytes never e =
    let parts = bare-parts (placed bytes) (in_place None (unfolded bytes) 0 [] (unfolded-rises bytes) tt (omega arith)) e in
    (not-folded (begins_with_fold bytes) never, parts.0, parts.1)
