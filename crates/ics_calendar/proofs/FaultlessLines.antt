-- In lines without a fault of the first round each component ends, each time zone has a TZID, and each event a UID, so that none is made.
use Rattle.std.proofs.Common.{◌≡◌, ◌⊎◌, inl, inr, ℕ, Bool, true, false, ◌&&◌, ◌||◌, not, ◌==◌, List, [], ◌∷◌, ◌++◌, map, filter, refl, sym, ap, ◌∙◌}
use Rattle.std.proofs.Common.{Some, None, arith, cond, subst, ⊎_elim}
use Rattle.std.specs.Prelude.{codes, find, option_map}
use Rattle.std.specs.List.{flat_map, list_all, list_any}
use Rattle.std.specs.Str.{bytes_eq}
use Rattle.std.specs.Cmp.Lexicographic.{bytes_decides}
use Rattle.std.proofs.lemmas.Bool.{and_from}
use Rattle.ics_text.specs.Bytes.{is_empty}
use Rattle.ics_values.specs.Plain.{text_of}
use Rattle.ics_components.specs.Components.{is_calendar_context, is_event_context, is_observance_context, is_zone_context}
use Rattle.ics_components.specs.declared.component.Context.{Context}
use Rattle.ics_components.specs.declared.component.Context.TheVariants as context
use Rattle.ics_components.specs.declared.fault.FaultKind.{FaultKind}
use Rattle.ics_components.specs.declared.fault.FaultKind.TheVariants.{MissingUid, ObservanceField}
use Rattle.ics_components.specs.declared.name.Name.TheVariants as name
use Rattle.ics_components.specs.EventLines.{all_events, has_no_uid, is_event, is_none_of, is_well_nested, nests, path_at_end, uid_line, with_uid, with_uids}
use Rattle.ics_components.specs.Faults.{ends, field_names, first_text, is_one_of, is_unfit, judged_as, kinds, reading, stands}
use Rattle.ics_components.specs.FirstFault.{NoneStand, fault_at_end, first_fault, least_on, no_open}
use Rattle.ics_components.specs.Observances.{begins_zone}
use Rattle.ics_components.specs.Parted.{AreInPlace}
use Rattle.ics_components.specs.PlacedLines.{Open, Placed, all_named, beside, closes, component, context_of, first_of, has, in_calendar}
use Rattle.ics_components.specs.PlacedLines.{in_event, innermost, is_begin, is_closing, is_end, is_named, lines_in, path_behind, value}
use Rattle.ics_components.specs.Values.{is_filled}
use Rattle.ics_components.proofs.Firsts.{finds-none}
use Rattle.ics_components.proofs.ItemFaults.{IsIn}
use Rattle.ics_components.proofs.NameLemmas.{context-tests}
use Rattle.ics_components.proofs.Opened.{in-any}
use Rattle.ics_components.proofs.Order.{inside, nested}
use Rattle.ics_components.proofs.RestFaults.{filter-in, in-filter, two-of}
use Rattle.ics_calendar.proofs.OneUid.{calendar-not, no-calendar}
use Rattle.ics_calendar.proofs.UnknownInParts.{IsTitled, event-begun, in-first}

-- A COMPONENT that is open ends on a line.
abbrev IsOver : List Open → List Open → Type 0
IsOver [] target = ⊥
IsOver (c ∷ cs) target = ((c ∷ cs) ≡ target) ⊎ IsOver cs target

in-append : (xs ys : List Placed) (k : Placed) → IsIn k (xs ++ ys) → IsIn k xs ⊎ IsIn k ys
in-append [] ys k i = inr i
in-append (x ∷ xs) ys k i = ⊎_elim (λ same. inl (inl same)) (λ j. ⊎_elim (λ a. inl (inr a)) (λ b. inr b) (in-append xs ys k j)) i

-- its END, without a fault
record IsEnd (whole : List Placed) (target : List Open) : Type 0 where
  before : List Placed
  within : (k : Placed) → IsIn k before → IsIn k whole
  line : Placed
  ends : is_end line ≡ true
  at : line.path ≡ target
  free : least_on stands before line ≡ None

module _ (whole : List Placed) where
  -- the lines from some on, behind others, of lines without a fault
  abbrev Passed : ℕ → List Open → List Placed → List Placed → Type 0
  Passed n path before ls =
      AreInPlace n path ls × NoneStand stands before ls × (no_open (path_at_end path ls) ≡ true)
      × ((k : Placed) → IsIn k before → IsIn k whole) × ((k : Placed) → IsIn k ls → IsIn k whole)

  passed-on : (m : Placed) (ms before : List Placed) (n : ℕ) (path : List Open) → Passed n path before (m ∷ ms) →
      Passed m.number (path_behind m) (before ++ m ∷ []) ms
  passed-on m ms before n path p = (p.0.4, p.1.1, p.2, has, λ k j. p.4 k (inr j))
    where
      has : (k : Placed) → IsIn k (before ++ m ∷ []) → IsIn k whole
      has k j =
          ⊎_elim (p.3 k) (λ g. ⊎_elim (λ (same : m ≡ k). p.4 k (inl same)) (λ (no : ⊥). absurd no) g) (in-append before (m ∷ []) k j)

  module _ (target : List Open) where
    still-open : (path : List Open) → no_open path ≡ true → IsOver path target → ⊥
    still-open [] e o = o
    still-open (c ∷ cs) e o = cc

    end-of : (ls before : List Placed) (n : ℕ) (path : List Open) → Passed n path before ls → IsOver path target → IsEnd whole target
    end-of [] before n path p o = absurd (still-open path p.2 o)
    end-of (m ∷ ms) before n path p o =
        by_kind (λ k. end-of ms (before ++ m ∷ []) m.number (path_behind m) (passed-on m ms before n path p) k) (is_begin m) (is_end m) refl refl
      where
        over : IsOver m.path target
        over = subst (λ q. IsOver q target) (sym p.0.0) o

        behind : (q : List Open) → path_behind m ≡ q → IsOver q target → IsOver (path_behind m) target
        behind q e k = subst (λ q. IsOver q target) (sym e) k

        by_path : (IsOver (path_behind m) target → IsEnd whole target) → is_begin m ≡ false → is_end m ≡ true → (q : List Open) → m.path ≡ q →
            IsOver q target → IsEnd whole target
        by_path again b f [] e k = absurd k
        by_path again b f (c ∷ cs) e (inl same) = record { before = before; within = p.3; line = m; ends = f; at = e ∙ same; free = p.1.0 }
        by_path again b f (c ∷ cs) e (inr j) = again (behind cs (rw (b, f, e) refl) j)

        by_kind : (IsOver (path_behind m) target → IsEnd whole target) → (b f : Bool) → is_begin m ≡ b → is_end m ≡ f → IsEnd whole target
        by_kind again true f b e = again (behind (inside m) (rw b refl) (inr over))
        by_kind again false true b e = by_path again b e m.path refl over
        by_kind again false false b e = again (behind m.path (rw (b, e) refl) over)

  -- its BEGIN, without a fault, and its END
  record IsEnded (b : Placed) : Type 0 where
    before : List Placed
    free : least_on stands before b ≡ None
    end : IsEnd whole (inside b)

  module _ (b : Placed) (begins : is_begin b ≡ true) where
    begin-of : (ls before : List Placed) (n : ℕ) (path : List Open) → Passed n path before ls → IsIn b ls → IsEnded b
    begin-of [] before n path p i = absurd i
    begin-of (m ∷ ms) before n path p i =
        by_place (λ j. begin-of ms (before ++ m ∷ []) m.number (path_behind m) (passed-on m ms before n path p) j) i
      where
        here : m ≡ b → IsEnded b
        here same =
            let is : is_begin m ≡ true = ap is_begin same ∙ begins in
            let behind : path_behind m ≡ inside m = rw is refl in
            let over : IsOver (path_behind m) (inside b) = subst (λ q. IsOver q (inside b)) (sym behind) (inl (ap inside same)) in
            record {
              before = before;
              free = subst (λ x. least_on stands before x ≡ None) same p.1.0;
              end = end-of (inside b) ms (before ++ m ∷ []) m.number (path_behind m) (passed-on m ms before n path p) over;
            }

        by_place : (IsIn b ms → IsEnded b) → (m ≡ b) ⊎ IsIn b ms → IsEnded b
        by_place later (inl same) = here same
        by_place later (inr j) = later j

-- WHICH FAULTS DO NOT STAND.
field-not : (p : FaultKind → Bool) → find p kinds ≡ None → p ObservanceField ≡ false
field-not p e = grind arith

uid-not : (p : FaultKind → Bool) → find p kinds ≡ None → p MissingUid ≡ false
uid-not p e = grind arith

zone-context : (q : Context) → is_zone_context q ≡ true → q ≡ context.Zone
zone-context q e = grind arith

matched : (e c : Bool) → (e && not c) ≡ false → e ≡ true → c ≡ true
matched e c f g = grind (arith, f, g)

field-there : (a b c t : Bool) → (a || (b || (c && not (t && true)))) ≡ false → c ≡ true → t ≡ true
field-there a b c t e f = grind (arith, e, f)

-- WHAT AN END HAS BESIDE IT: a TZID in a time zone, and a filled UID in an event.
module _ (before : List Placed) (line : Placed) (end : is_end line ≡ true) (free : least_on stands before line ≡ None) where
  closing : ends (judged_as line) ≡ true
  closing =
      and_from (is_end line) (closes line.path (component line)) end
      (matched (is_end line) (closes line.path (component line)) (nested (λ kind. stands kind (beside before line) line) free) end)

  tzid-beside : is_zone_context (context_of line.path) ≡ true → list_any (is_named name.Tzid) (beside before line) ≡ true
  tzid-beside zone =
      field-there (is_observance_context context.Zone && is_unfit ObservanceField (reading (record (judged_as line) { context = context.Zone })))
      (is_one_of (field_names context.Zone) (judged_as line).name && has (judged_as line).name (beside before line)) (ends (judged_as line))
      (has name.Tzid (beside before line))
      (rw (zone-context (context_of line.path) zone) at (field-not (λ kind. stands kind (beside before line) line) free)) closing

  uid-beside : is_event_context (context_of line.path) ≡ true → is_filled (first_text name.Uid (beside before line)) ≡ true
  uid-beside event =
      matched (is_event_context (context_of line.path) && ends (judged_as line)) (is_filled (first_text name.Uid (beside before line)))
      (uid-not (λ kind. stands kind (beside before line) line) free)
      (and_from (is_event_context (context_of line.path)) (ends (judged_as line)) event closing)

-- a text that is not empty
filled-uid : (ks : List Placed) → is_filled (option_map (λ line. text_of (value line)) (first_of ks)) ≡ true →
    (x : Placed) × IsIn x ks × (not (is_empty (text_of (value x))) ≡ true)
filled-uid [] e = cc
filled-uid (k ∷ ks) e = (k, inl refl, by_text (text_of (value k)) e)
  where
    by_text : (text : List ℕ) → is_filled (Some text) ≡ true → not (is_empty text) ≡ true
    by_text [] e = cc
    by_text (b ∷ bs) e = refl

some-uid : (ks : List Placed) (x : Placed) → IsIn x ks → not (is_empty (text_of (value x))) ≡ true →
    is_none_of (filter (λ uid. not (is_empty uid)) (map (λ line. text_of (value line)) ks)) ≡ false
some-uid [] x i e = absurd i
some-uid (k ∷ ks) x i e = by_test (not (is_empty (text_of (value k)))) refl (λ j. some-uid ks x j e) i
  where
    rest : List (List ℕ)
    rest = filter (λ uid. not (is_empty uid)) (map (λ line. text_of (value line)) ks)

    by_test : (t : Bool) → not (is_empty (text_of (value k))) ≡ t → (IsIn x ks → is_none_of rest ≡ false) → (k ≡ x) ⊎ IsIn x ks →
        is_none_of (cond t (text_of (value k) ∷ rest) rest) ≡ false
    by_test true f later j = refl
    by_test false f later (inl same) = let never = sym (ap (λ (y : Placed). not (is_empty (text_of (value y)))) same ∙ e) ∙ f in cc
    by_test false f later (inr j) = later j

flat-same : (f : Placed → List Placed) (ks : List Placed) → ((k : Placed) → IsIn k ks → f k ≡ k ∷ []) → flat_map f ks ≡ ks
flat-same f [] each = refl
flat-same f (k ∷ ks) each =
    let one = each k (inl refl) in let more = flat-same f ks (λ m i. each m (inr i)) in λ i. one i ++ more i

-- LINES WITHOUT A FAULT of the first round.
pub record IsFaultless (ls : List Placed) : Type 0 where
  pub in_place : AreInPlace 0 [] ls
  pub nested : is_well_nested ls ≡ true
  pub free : first_fault ls ≡ None

module _ (ls : List Placed) (f : IsFaultless ls) where
  ended : (b : Placed) → IsIn b ls → is_begin b ≡ true → IsEnded ls b
  ended b i t =
      begin-of ls b t ls [] 0 [] (
        f.in_place,
        (finds-none stands fault_at_end [] ls f.free).0,
        (two-of (no_open (path_at_end [] ls)) (list_all nests ls) f.nested).0,
        (λ k j. absurd j),
        λ k j. j,
      ) i

  -- a line beside an END is one of those of its component
  beside-in : (b : Placed) (e : IsEnd ls (inside b)) (x : Placed) → IsIn x (beside e.before e.line) → IsIn x (lines_in b.number ls)
  beside-in b e x i =
      let two = in-filter (λ m. innermost m.path == innermost e.line.path) e.before x i in
      filter-in (λ m. innermost m.path == b.number) ls x (e.within x two.0) (ap (λ p. innermost x.path == innermost p) (sym e.at) ∙ two.1)

  -- EACH TIME ZONE HAS A TZID.
  pub zone-titled : (z : Placed) → IsIn z ls → begins_zone z ≡ true → IsTitled ls z
  zone-titled z i t =
      let one = two-of (in_calendar z) _ t in
      let two = two-of (is_begin z) (bytes_eq (component z) (codes "VTIMEZONE")) one.1 in
      let e = (ended z i two.0).end in
      let zone : is_zone_context (context_of e.line.path) ≡ true =
      ap (λ p. is_zone_context (context_of p)) e.at ∙ (context-tests (context_of z.path) (component z)).1
      ∙ and_from (in_calendar z) (bytes_eq (component z) (codes "VTIMEZONE")) one.0 two.1 in
      let g = in-any (is_named name.Tzid) (beside e.before e.line) (tzid-beside e.before e.line e.ends e.free zone) in
      let first = in-first (all_named name.Tzid (lines_in z.number ls)) g.one
      (filter-in (is_named name.Tzid) (lines_in z.number ls) g.one (beside-in z e g.one g.among) g.holds) in
      record { line = first.0; first = first.1 }

  -- EACH EVENT HAS A UID.
  event-uid : (b : Placed) → IsIn b ls → is_event b ≡ true → has_no_uid ls b ≡ false
  event-uid b i t = some-uid (all_named name.Uid (lines_in b.number ls)) x.0 uid x.2
    where
      one : ((in_calendar b || no_open b.path) ≡ true) × ((is_begin b && bytes_eq (component b) (codes "VEVENT")) ≡ true)
      one = two-of (in_calendar b || no_open b.path) (is_begin b && bytes_eq (component b) (codes "VEVENT")) t

      two : (is_begin b ≡ true) × (bytes_eq (component b) (codes "VEVENT") ≡ true)
      two = two-of (is_begin b) (bytes_eq (component b) (codes "VEVENT")) one.1

      is : IsEnded ls b
      is = ended b i two.0

      e : IsEnd ls (inside b)
      e = is.end

      calendar : in_calendar b ≡ true
      calendar = by_path b.path refl one.0
        where
          by_path : (path : List Open) → b.path ≡ path → (is_calendar_context (context_of path) || no_open path) ≡ true → in_calendar b ≡ true
          by_path [] p o =
              let found = calendar-not (λ kind. stands kind (beside is.before b) b) is.free in
              let word : component b ≡ codes "VEVENT" = (bytes_decides (component b) (codes "VEVENT")).0 two.1 in
              let never : true ≡ false = sym (no-calendar b (beside is.before b) p two.0 word) ∙ found in
              cc
          by_path (c ∷ cs) p o = ap (λ q. is_calendar_context (context_of q)) p ∙ or-false (is_calendar_context (context_of (c ∷ cs))) o
            where
              or-false : (t : Bool) → (t || false) ≡ true → t ≡ true
              or-false true o = refl
              or-false false o = o

      event : is_event_context (context_of e.line.path) ≡ true
      event =
          ap (λ p. is_event_context (context_of p)) e.at ∙ (context-tests (context_of b.path) (component b)).0
          ∙ and_from (in_calendar b) (bytes_eq (component b) (codes "VEVENT")) calendar two.1

      x : (x : Placed) × IsIn x (all_named name.Uid (beside e.before e.line)) × (not (is_empty (text_of (value x))) ≡ true)
      x = filled-uid (all_named name.Uid (beside e.before e.line)) (uid-beside e.before e.line e.ends e.free event)

      uid : IsIn x.0 (all_named name.Uid (lines_in b.number ls))
      uid =
          let both = in-filter (is_named name.Uid) (beside e.before e.line) x.0 x.1 in
          filter-in (is_named name.Uid) (lines_in b.number ls) x.0 (beside-in b e x.0 both.0) both.1

  -- NO UID IS MADE.
  pub uids-stay : (file : List ℕ) → with_uids file ls ≡ ls
  uids-stay file = by_events (all_events ls) refl
    where
      and-false : (t : Bool) → (t && false) ≡ false
      and-false true = refl
      and-false false = refl

      lone : all_events ls ≡ [] → (l : Placed) → IsIn l ls → with_uid file l ≡ l ∷ []
      lone e l i = by_event (in_event l) refl
        where
          no-event : (ks : List Placed) → all_events ls ≡ ks → ks ≡ [] → in_event l ≡ true → ⊥
          no-event ks same empty t =
              let b = event-begun ls f.in_place l i t in
              subst (λ ks. IsIn b.event ks) (same ∙ empty) (filter-in is_event ls b.event b.among b.is)

          by_event : (t : Bool) → in_event l ≡ t →
              cond (t && is_named name.Uid l) [] (cond (is_closing l && t) (uid_line file l ∷ l ∷ []) (l ∷ [])) ≡ l ∷ []
          by_event true t = absurd (no-event (all_events ls) refl e t)
          by_event false t = ap (λ s. cond s (uid_line file l ∷ l ∷ []) (l ∷ [])) (and-false (is_closing l))

      by_events : (es : List Placed) → all_events ls ≡ es → cond (list_all (has_no_uid ls) es) (flat_map (with_uid file) ls) ls ≡ ls
      by_events [] e = flat-same (with_uid file) ls (lone e)
      by_events (b ∷ es) e =
          let two = in-filter is_event ls b (subst (λ ks. IsIn b ks) (sym e) (inl refl)) in
          ap (λ t. cond (t && list_all (has_no_uid ls) es) (flat_map (with_uid file) ls) ls) (event-uid b two.0 two.1)
