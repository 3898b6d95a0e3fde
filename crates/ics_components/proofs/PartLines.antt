-- Some events and time zones with BEGIN, END and VERSION of their calendars are whole components, and their first fault is the least of theirs and of
-- those of the VERSION lines.
use Rattle.std.proofs.Common.{◌≡◌, ◌⊎◌, inl, inr, ℕ, Bool, true, false, ◌&&◌, ◌||◌, ◌==◌, List, [], ◌∷◌, refl, sym, ap, ◌∙◌, arith}
use Rattle.std.proofs.Common.{subst, ⊎_elim}
use Rattle.std.specs.Prelude.{codes}
use Rattle.std.specs.List.{list_all, list_any}
use Rattle.std.specs.Str.{bytes_eq}
use Rattle.std.proofs.lemmas.Bool.{eq-eqb, eqb-true}
use Rattle.std.proofs.lemmas.Slice.Eq.{bytes_eq-Decides}
use Rattle.ics_components.specs.declared.component.Context.{Context}
use Rattle.ics_components.specs.declared.component.Context.TheVariants as context
use Rattle.ics_components.specs.declared.component.Component.{Component}
use Rattle.ics_components.specs.declared.name.Name.TheVariants as name
use Rattle.ics_components.specs.Components.{component_of, context_in, is_calendar_context}
use Rattle.ics_components.specs.EventLines.{is_well_nested}
use Rattle.ics_components.specs.Parted.{AreInPlace, begins_part, is_line_of, is_part}
use Rattle.ics_components.specs.PlacedLines.{Open, Placed, component, context_of, in_calendar, innermost, is_begin, is_end, is_named, name_on}
use Rattle.ics_components.proofs.ChosenLines.{AreChosen}
use Rattle.ics_components.proofs.ItemFaults.{IsIn}
use Rattle.ics_components.proofs.NameLemmas.{context-in-outside}
use Rattle.ics_components.proofs.Opened.{AllOpened, any-in, begin-taken, begins_taken, in-any, of_whole, one-begin, takes_whole, within}
use Rattle.ics_components.proofs.Order.{inside}
use Rattle.ics_components.proofs.PartPaths.{begins-by, calendar-outside, deep-no-calendar}
use Rattle.ics_components.proofs.PartsLemmas.{marks}
use Rattle.ics_components.proofs.RestFaults.{all-open, either-of, end-no-begin, left-or, line-down, line-up, never-both, one-part, open-at, own-line}
use Rattle.ics_components.proofs.RestFaults.{part-begins, right-or, same-truth, two-of}
use Rattle.ics_components.proofs.WholeComponents.{IsOfWhole}

-- BEGIN, END and VERSION of some calendars, and the lines of some events and time zones
abbrev pub frames_taken : (ℕ → Bool) → Placed → Bool
frames_taken calendars l =
    calendars l.number || (in_calendar l && (calendars (innermost l.path) && (is_end l || is_named name.Version l)))

abbrev pub takes : (Placed → Bool) → (ℕ → Bool) → List Placed → Placed → Bool
takes roots calendars lines l = list_any (λ b. roots b && is_line_of b l) lines || frames_taken calendars l

-- The roots are events and time zones, and the numbers those on which their calendars begin.
pub record AreRoots (roots : Placed → Bool) (calendars : ℕ → Bool) (ls : List Placed) : Type 0 where
  pub parts : (b : Placed) → IsIn b ls → roots b ≡ true → begins_part b ≡ true
  pub around : (b : Placed) → IsIn b ls → roots b ≡ true → list_all (λ c. calendars c.begun) b.path ≡ true
  pub begin : (l : Placed) → IsIn l ls → calendars l.number ≡ true → is_begin l ≡ true
  pub calendar : (l : Placed) → IsIn l ls → calendars l.number ≡ true → is_calendar_context (context_of (inside l)) ≡ true

all-within : (p : ℕ → Bool) (path : List Open) (n : ℕ) → list_all (λ c. p c.begun) path ≡ true → within n path ≡ true → p n ≡ true
all-within p [] n all w = cc
all-within p (c ∷ cs) n all w =
    let both = two-of (p c.begun) (list_all (λ c. p c.begun) cs) all in
    by_place (λ t. all-within p cs n both.1 t) both.0 (either-of (c.begun == n) (within n cs) w)
  where
    by_place : (within n cs ≡ true → p n ≡ true) → p c.begun ≡ true → ((c.begun == n) ≡ true) ⊎ (within n cs ≡ true) → p n ≡ true
    by_place later one (inl e) = ap p (sym (eqb-true c.begun n e)) ∙ one
    by_place later one (inr t) = later t

-- a calendar is in no component
outside-path : (path : List Open) → context_of path ≡ context.Outside → path ≡ []
outside-path [] e = refl
outside-path (c ∷ cs) e = absurd (context-in-outside (context_of cs) (component_of c.name) e)

pub calendar-path : (l : Placed) → is_calendar_context (context_of (inside l)) ≡ true → l.path ≡ []
calendar-path l e = outside-path l.path (calendar-outside (context_of l.path) (component_of (component l)) e)

-- an event or a time zone is no calendar
not-calendar : (q : Context) (c : Component) → c ≡ component_of (codes "VEVENT") → is_calendar_context (context_in q c) ≡ false
not-calendar q c e = rw e (by_context q)
  where
    by_context : (q : Context) → is_calendar_context (context_in q (component_of (codes "VEVENT"))) ≡ false
    by_context context.Outside = refl
    by_context context.Calendar = refl
    by_context _ = refl

no-zone-calendar : (q : Context) → is_calendar_context (context_in q (component_of (codes "VTIMEZONE"))) ≡ false
no-zone-calendar context.Outside = refl
no-zone-calendar context.Calendar = refl
no-zone-calendar _ = refl

part-no-calendar : (path : List Open) (word : List ℕ) → is_part path word ≡ true
    → is_calendar_context (context_in (context_of path) (component_of word)) ≡ false
part-no-calendar path word e = by_word (named-part path e)
  where
    named-part : (path : List Open) → is_part path word ≡ true → (bytes_eq word (codes "VEVENT") ≡ true) ⊎ (bytes_eq word (codes "VTIMEZONE") ≡ true)
    named-part [] e = inl e
    named-part (c ∷ cs) e =
        either-of (bytes_eq word (codes "VEVENT")) (bytes_eq word (codes "VTIMEZONE")) (two-of (is_calendar_context (context_of (c ∷ cs))) _ e).1

    by_word : (bytes_eq word (codes "VEVENT") ≡ true) ⊎ (bytes_eq word (codes "VTIMEZONE") ≡ true) →
        is_calendar_context (context_in (context_of path) (component_of word)) ≡ false
    by_word (inl t) = rw ((bytes_eq-Decides word (codes "VEVENT")).0 t) (not-calendar (context_of path) _ refl)
    by_word (inr t) = rw ((bytes_eq-Decides word (codes "VTIMEZONE")).0 t) (no-zone-calendar (context_of path))

-- directly in a calendar one component is open
one-open : (path : List Open) → is_calendar_context (context_of path) ≡ true → (n : ℕ) → within n path ≡ true → innermost path ≡ n
one-open [] e n w = cc
one-open (c ∷ []) e n w = ⊎_elim (λ t. eqb-true c.begun n t) (λ t. let no : within n [] ≡ true = t in cc) (either-of (c.begun == n) (within n []) w)
one-open (c ∷ d ∷ ds) e n w = let no = deep-no-calendar c d ds in cc

-- what is taken: a line of a root, the BEGIN line of a calendar, or its END or VERSION
pub record IsRooted (roots : Placed → Bool) (ls : List Placed) (l : Placed) : Type 0 where
  pub root : Placed
  pub among : IsIn root ls
  pub chosen : roots root ≡ true
  pub of : is_line_of root l ≡ true

abbrev pub IsFramed : (ℕ → Bool) → Placed → Type 0
IsFramed calendars l = (in_calendar l ≡ true) × (calendars (innermost l.path) ≡ true) × ((is_end l || is_named name.Version l) ≡ true)

abbrev pub IsTaken : (Placed → Bool) → (ℕ → Bool) → List Placed → Placed → Type 0
IsTaken roots calendars ls l = IsRooted roots ls l ⊎ ((calendars l.number ≡ true) ⊎ IsFramed calendars l)

three-of : (a b c : Bool) → (a && (b && c)) ≡ true → (a ≡ true) × (b ≡ true) × (c ≡ true)
three-of a b c e = (grind (arith, e), grind (arith, e), grind (arith, e))

module _ (ls : List Placed) (roots : Placed → Bool) (calendars : ℕ → Bool) where
  abbrev taken : Placed → Bool
  taken = takes roots calendars ls

  pub taken-is : (l : Placed) → taken l ≡ true → IsTaken roots calendars ls l
  taken-is l t = by_root (either-of (list_any (λ b. roots b && is_line_of b l) ls) (frames_taken calendars l) t)
    where
      rooted : list_any (λ b. roots b && is_line_of b l) ls ≡ true → IsRooted roots ls l
      rooted e =
          let f = in-any (λ b. roots b && is_line_of b l) ls e in
          let both = two-of (roots f.one) (is_line_of f.one l) f.holds in
          record { root = f.one; among = f.among; chosen = both.0; of = both.1 }

      by_root : (list_any (λ b. roots b && is_line_of b l) ls ≡ true) ⊎ (frames_taken calendars l ≡ true) → IsTaken roots calendars ls l
      by_root (inl e) = inl (rooted e)
      by_root (inr e) =
          inr (⊎_elim (λ t. inl t) (λ t. inr (three-of (in_calendar l) (calendars (innermost l.path)) (is_end l || is_named name.Version l) t))
          (either-of (calendars l.number) (in_calendar l && (calendars (innermost l.path) && (is_end l || is_named name.Version l))) e))

  pub rooted-taken : (b l : Placed) → IsIn b ls → roots b ≡ true → is_line_of b l ≡ true → taken l ≡ true
  rooted-taken b l i r e =
      left-or (list_any (λ b. roots b && is_line_of b l) ls) (frames_taken calendars l)
      (any-in (λ b. roots b && is_line_of b l) ls b i (rw (r, e) refl))

  pub begin-framed : (l : Placed) → calendars l.number ≡ true → taken l ≡ true
  begin-framed l e =
      right-or (list_any (λ b. roots b && is_line_of b l) ls) (frames_taken calendars l)
      (left-or (calendars l.number) (in_calendar l && (calendars (innermost l.path) && (is_end l || is_named name.Version l))) e)

  pub framed-taken : (l : Placed) → IsFramed calendars l → taken l ≡ true
  framed-taken l f =
      right-or (list_any (λ b. roots b && is_line_of b l) ls) (frames_taken calendars l)
      (right-or (calendars l.number) (in_calendar l && (calendars (innermost l.path) && (is_end l || is_named name.Version l))) (rw (f.0, f.1, f.2) refl))

-- a line on which a component begins is no END and no VERSION
no-frame : (l : Placed) → is_begin l ≡ true → (is_end l || is_named name.Version l) ≡ false
no-frame l b = let no = marks (name_on l.content) b in rw (no.0, no.1) refl

module _ (ls : List Placed) (h : AreInPlace 0 [] ls) (roots : Placed → Bool) (calendars : ℕ → Bool) (are : AreRoots roots calendars ls) where
  abbrev took : Placed → Bool
  took = takes roots calendars ls

  abbrev whole : ℕ → Bool
  whole = begins_taken took ls

  -- a component that is open with another is in that or around it
  between : (path : List Open) → AllOpened ls path → (b k : Placed) → IsIn b ls → IsIn k ls → is_begin b ≡ true → is_begin k ≡ true →
      within b.number path ≡ true → within k.number path ≡ true → (is_line_of b k ≡ true) ⊎ (within k.number b.path ≡ true)
  between [] all b k i j s t v w = cc
  between (c ∷ cs) all b k i j s t v w =
      by_b (λ x y. between cs all.1 b k i j s t x y) (either-of (c.begun == b.number) (within b.number cs) v)
      (either-of (c.begun == k.number) (within k.number cs) w)
    where
      by_b : (within b.number cs ≡ true → within k.number cs ≡ true → (is_line_of b k ≡ true) ⊎ (within k.number b.path ≡ true)) →
          ((c.begun == b.number) ≡ true) ⊎ (within b.number cs ≡ true) → ((c.begun == k.number) ≡ true) ⊎ (within k.number cs ≡ true) →
          (is_line_of b k ≡ true) ⊎ (within k.number b.path ≡ true)
      by_b later (inl x) (inl y) =
          inl (left-or (k.number == b.number) (within b.number k.path)
          (eq-eqb k.number b.number (sym (eqb-true c.begun k.number y) ∙ eqb-true c.begun b.number x)))
      by_b later (inl x) (inr y) =
          let same = one-begin ls 0 [] h b all.0.begin i all.0.among s (all.0.number ∙ eqb-true c.begun b.number x) in
          inr (ap (within k.number) (sym (ap (λ (z : Placed). z.path) same) ∙ all.0.path) ∙ y)
      by_b later (inr x) (inl y) =
          let same = one-begin ls 0 [] h k all.0.begin j all.0.among t (all.0.number ∙ eqb-true c.begun k.number y) in
          inl (right-or (k.number == b.number) (within b.number k.path) (ap (within b.number) (sym (ap (λ (z : Placed). z.path) same) ∙ all.0.path) ∙ x))
      by_b later (inr x) (inr y) = later x y

  begins-of : (b : Placed) → IsIn b ls → roots b ≡ true → is_begin b ≡ true
  begins-of b i r = part-begins ls h b (are.parts b i r)

  -- the BEGIN line of a component in which a line stands that is taken
  up-taken : (l k : Placed) → IsIn l ls → IsIn k ls → is_begin k ≡ true → within k.number l.path ≡ true → IsTaken roots calendars ls l → took k ≡ true
  up-taken l k i j b w (inl r) = by_line (either-of (l.number == r.root.number) (within r.root.number l.path) r.of)
    where
      around : within k.number r.root.path ≡ true → took k ≡ true
      around x = begin-framed ls roots calendars k (all-within calendars r.root.path k.number (are.around r.root r.among r.chosen) x)

      begins : is_begin r.root ≡ true
      begins = begins-of r.root r.among r.chosen

      by_line : ((l.number == r.root.number) ≡ true) ⊎ (within r.root.number l.path ≡ true) → took k ≡ true
      by_line (inl x) =
          let same = one-begin ls 0 [] h r.root l r.among i begins (eqb-true l.number r.root.number x) in
          around (ap (within k.number) (sym (ap (λ (z : Placed). z.path) same)) ∙ w)
      by_line (inr x) =
          ⊎_elim (λ y. rooted-taken ls roots calendars r.root k r.among r.chosen y) around
          (between l.path (open-at ls h l i) r.root k r.among j begins b x w)
  up-taken l k i j b w (inr (inl x)) =
      let empty = calendar-path l (are.calendar l i x) in
      let no : within k.number [] ≡ true = ap (within k.number) (sym empty) ∙ w in cc
  up-taken l k i j b w (inr (inr f)) =
      begin-framed ls roots calendars k (ap calendars (sym (one-open l.path f.0 k.number w)) ∙ f.1)

  -- the END of a component is taken exactly where its BEGIN is
  module _ (l k : Placed) (c : Open) (cs : List Open) (i : IsIn l ls) (j : IsIn k ls) (begins : is_begin k ≡ true) (ends : is_end l ≡ true)
      (at : l.path ≡ c ∷ cs) (number : k.number ≡ c.begun) (path : k.path ≡ cs) (called : component k ≡ c.name) where
    inside-it : within k.number l.path ≡ true
    inside-it = ap (within k.number) at ∙ left-or (c.begun == k.number) (within k.number cs) (eq-eqb c.begun k.number (sym number))

    no-begin : {X : Type 0} → is_begin l ≡ true → X
    no-begin b = never-both (is_begin l) b (end-no-begin (name_on l.content) ends)

    down-taken : IsTaken roots calendars ls l → took k ≡ true
    down-taken (inl r) =
        rooted-taken ls roots calendars r.root k r.among r.chosen
        (line-down ls h r.root k l c cs r.among i (begins-of r.root r.among r.chosen) ends at number path r.of)
    down-taken (inr (inl x)) = no-begin (are.begin l i x)
    down-taken (inr (inr f)) =
        begin-framed ls roots calendars k (ap calendars (sym (one-open l.path f.0 k.number inside-it)) ∙ f.1)

    end-taken : IsTaken roots calendars ls k → took l ≡ true
    end-taken (inl r) = rooted-taken ls roots calendars r.root l r.among r.chosen (line-up ls h r.root k l j i begins inside-it r.of)
    end-taken (inr (inl x)) =
        let same : context_of l.path ≡ context_of (inside k) =
        ap context_of at ∙ (λ n. context_in (context_of (sym path n)) (component_of (sym called n))) in
        framed-taken ls roots calendars l (
          ap is_calendar_context same ∙ are.calendar k j x,
          ap (λ p. calendars (innermost p)) at ∙ ap calendars (sym number) ∙ x,
          left-or (is_end l) (is_named name.Version l) ends,
        )
    end-taken (inr (inr f)) = never-both (is_end k || is_named name.Version k) f.2 (no-frame k begins)

    pub ends-same : took l ≡ took k
    ends-same =
        same-truth ls h (took l) (took k) (λ t. down-taken (taken-is ls roots calendars l t)) (λ t. end-taken (taken-is ls roots calendars k t))

  taken-whole : (l : Placed) → IsIn l ls → IsOfWhole took whole l
  taken-whole l i = record {
    begins = λ b. sym (begin-taken took ls h l i b l.number refl);
    inside = λ t. all-open ls whole l.path (open-at ls h l i) (λ k j b w.
        begin-taken took ls h k j b k.number refl ∙ up-taken l k i j b w (taken-is ls roots calendars l t));
    ends = λ e c cs at. by_open e c cs at (subst (λ (p : List Open). AllOpened ls p) at (open-at ls h l i));
  }
    where
      by_open : is_end l ≡ true → (c : Open) (cs : List Open) → l.path ≡ c ∷ cs → AllOpened ls (c ∷ cs) → took l ≡ whole c.begun
      by_open e c cs at all =
          let k = all.0 in
          ends-same l k.begin c cs i k.among k.begins e at k.number k.path k.called
          ∙ sym (begin-taken took ls h k.begin k.among k.begins c.begun k.number)

  -- an event or a time zone that is taken is a root
  pub root-of : (e : Placed) → IsIn e ls → begins_part e ≡ true → IsTaken roots calendars ls e → roots e ≡ true
  root-of e i b (inl r) =
      let same = one-part ls h r.root e e r.among i i (are.parts r.root r.among r.chosen) b r.of (own-line ls h e) in ap roots (sym same) ∙ r.chosen
  root-of e i b (inr (inl x)) =
      let part = (two-of (is_begin e) (is_part e.path (component e)) (sym (begins-by e) ∙ b)).1 in
      never-both (is_calendar_context (context_of (inside e))) (are.calendar e i x) (part-no-calendar e.path (component e) part)
  root-of e i b (inr (inr f)) = never-both (is_end e || is_named name.Version e) f.2 (no-frame e (part-begins ls h e b))

  pub roots_chosen : is_well_nested ls ≡ true → AreChosen took whole ls
  roots_chosen nested = record {
    in_place = h;
    nested = nested;
    of_whole = of_whole took whole ls taken-whole;
    blocks = takes_whole took ls ls (λ e k i j b t x.
        rooted-taken ls roots calendars e k i (root-of e i b (taken-is ls roots calendars e t)) x);
  }
