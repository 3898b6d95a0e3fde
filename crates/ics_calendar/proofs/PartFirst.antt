-- The first fault of a part is the least of those of its events, of the time zones that they name and of the VERSION lines of their calendars.
use Rattle.std.proofs.Common.{◌≡◌, ◌⊎◌, inl, inr, ℕ, ◌≤◌, Bool, true, false, ◌&&◌, ◌||◌, ◌==◌, List, [], ◌∷◌, ◌++◌, map, filter, refl, sym, ap, ◌∙◌}
use Rattle.std.proofs.Common.{Option, Some, None, Result, Ok, Err, arith, cond, fold, flat_map, subst, ⊎_elim}
use Rattle.std.specs.Prelude.{codes}
use Rattle.std.specs.List.{list_all, list_any}
use Rattle.std.specs.Option.{option_or}
use Rattle.std.specs.Str.{bytes_eq}
use Rattle.std.proofs.lemmas.Bool.{eq-eqb, eqb-true}
use Rattle.ics_components.specs.declared.fault.Fault.{Fault}
use Rattle.ics_components.specs.declared.fault.FaultKind.TheVariants.{OldVersion}
use Rattle.ics_components.specs.declared.deferred_check.ZoneName.{ZoneName}
use Rattle.ics_components.specs.declared.name.Name.TheVariants as name
use Rattle.ics_components.specs.Components.{component_of, context_in, is_calendar_context}
use Rattle.ics_components.specs.EventLines.{all_events, is_event, is_well_nested, texts_in, zones_named}
use Rattle.ics_components.specs.declared.frame.Frame.{Frame}
use Rattle.ics_components.specs.FirstFault.{first_fault, no_open}
use Rattle.ics_components.specs.Observances.{begins_zone}
use Rattle.ics_components.specs.ParsedFileSeen.{ParsedFileSeen}
use Rattle.ics_components.specs.ParsedFiles.{nothing_parsed}
use Rattle.ics_components.specs.PartFaults.{earlier}
use Rattle.ics_components.specs.Parted.{AreInPlace, Broken, LinesRead, PartedComponentSeen, Reads, begins_part, block_read, component_seen, gathered_in}
use Rattle.ics_components.specs.Parted.{parted_lines}
use Rattle.ics_components.specs.Parted.{version_faults}
use Rattle.ics_components.specs.PlacedLines.{Open, Placed, calendar_of, component, context_of, in_calendar, innermost, is_begin, is_end, is_named}
use Rattle.ics_components.specs.PlacedLines.{path_behind, value}
use Rattle.ics_components.proofs.ChosenLines.{chosen_in_place, fault_of, if_empty}
use Rattle.ics_components.proofs.ParsedItems.{chosen_parsed, each_parsed, parsed_checks, parsed_events, parsed_in, parsed_zones}
use Rattle.ics_components.proofs.PartKinds.{event_gathers, zone_gathers}
use Rattle.ics_components.proofs.Folds.{item_read}
use Rattle.ics_components.proofs.ItemFaults.{AreApart, Has, IsCovered, IsIn, Rise, faults_rise, item_fault, least, rise-has}
use Rattle.ics_components.proofs.Opened.{AllOpened, IsFound, above, any-in, begins_taken, in-any, one-begin, opened}
use Rattle.ics_components.proofs.Order.{inside}
use Rattle.ics_components.proofs.PartLines.{AreRoots, IsFramed, IsRooted, IsTaken, begin-framed, framed-taken, root-of, rooted-taken, roots_chosen, taken-is}
use Rattle.ics_components.proofs.PartLines.{takes}
use Rattle.ics_components.proofs.RestFaults.{IsBefore, earlier-more, either-of, filter-in, fold_least, in-filter, left-or, own-line, right-or, same-truth}
use Rattle.ics_components.proofs.RestFaults.{never-both, two-of, zones-read}
use Rattle.ics_components.proofs.RootFaults.{IsOfRoot, IsOfVersion, roots_least, version_fault}
use Rattle.ics_components.proofs.PartPaths.{deep-no-calendar}
use Rattle.ics_components.proofs.PartsLemmas.{event-no-zone}
use Rattle.ics_components.proofs.PassLemmas.{parsed_from}
use Rattle.ics_calendar.specs.DeferredChecks.{is_same}
use Rattle.ics_calendar.specs.Files.{lines_say}
use Rattle.ics_calendar.specs.Settled.{known_in, unresolved_by}
use Rattle.ics_calendar.specs.Wanted.{each_once, unknown_names}
use Rattle.ics_calendar.proofs.LinesSettle.{lines_settle}
use Rattle.ics_calendar.specs.Inner.PartsRead.{calendar_fault, fault_needed, fault_read, has_name, zone_fault}
use Rattle.ics_calendar.specs.Parts.{Part, frames, is_in_part, is_of, is_zone_of, lines_of, lines_of_all, needs}

both-true : (a b : Bool) → a ≡ true → b ≡ true → (a && b) ≡ true
both-true a b e f = grind (arith, e, f)

-- A PART is some events of a file.
abbrev pub IsPart : List Placed → Part → Type 0
IsPart ls [] = Unit {0}
IsPart ls (e ∷ es) = (IsIn e ls × (is_event e ≡ true)) × IsPart ls es

pub part-member : (ls : List Placed) (part : Part) → IsPart ls part → (e : Placed) → IsIn e part → IsIn e ls × (is_event e ≡ true)
part-member ls [] p e i = absurd i
part-member ls (k ∷ ks) p e i = by_place (λ j. part-member ls ks p.1 e j) i
  where
    by_place : (IsIn e ks → IsIn e ls × (is_event e ≡ true)) → (k ≡ e) ⊎ IsIn e ks → IsIn e ls × (is_event e ≡ true)
    by_place later (inl same) = subst (λ (x : Placed). IsIn x ls × (is_event x ≡ true)) same p.0
    by_place later (inr j) = later j

-- its events and their time zones, and the lines on which their calendars begin
abbrev root_by : List Placed → Placed → Placed → Bool
root_by ls b event = b.number == event.number || is_zone_of ls event b

abbrev pub roots_of : List Placed → Part → Placed → Bool
roots_of ls part b = list_any (λ event. root_by ls b event) part

abbrev pub calendars_of : Part → ℕ → Bool
calendars_of part n = list_any (λ event. n == calendar_of event.path) part

event-of : (a b c d : Bool) → ((a || b) && (c && d)) ≡ true → (a ≡ true) ⊎ (b ≡ true)
event-of true b c d e = inl refl
event-of false true c d e = inr refl
event-of false false c d e = cc

abbrev pub IsPlain : List Open → Type 0
IsPlain path = (is_calendar_context (context_of path) ≡ true) ⊎ (no_open path ≡ true)

pub event-path : (e : Placed) → is_event e ≡ true → IsPlain e.path
event-path e t = event-of (in_calendar e) (no_open e.path) (is_begin e) (bytes_eq (component e) (codes "VEVENT")) t

-- what is open before it is its calendar, or nothing
around-plain : (p : ℕ → Bool) (path : List Open) → IsPlain path → p (calendar_of path) ≡ true → list_all (λ c. p c.begun) path ≡ true
around-plain p [] plain e = refl
around-plain p (c ∷ []) plain e = rw e refl
around-plain p (c ∷ d ∷ ds) plain e = ⊎_elim (λ t. let no = deep-no-calendar c d ds in cc) (λ t. cc) plain

pub calendar-plain : (path : List Open) → IsPlain path → innermost path ≡ calendar_of path
calendar-plain [] plain = refl
calendar-plain (c ∷ []) plain = refl
calendar-plain (c ∷ d ∷ ds) plain = ⊎_elim (λ t. let no = deep-no-calendar c d ds in cc) (λ t. cc) plain

zone-parts : (ls : List Placed) (event b : Placed) → is_zone_of ls event b ≡ true →
    (begins_zone b ≡ true) × (calendar_of b.path ≡ calendar_of event.path)
zone-parts ls event b t =
    let both = two-of (begins_zone b) _ t in
    (both.0, eqb-true (calendar_of b.path) (calendar_of event.path) (two-of (calendar_of b.path == calendar_of event.path) _ both.1).0)

pub zone-plain : (b : Placed) → begins_zone b ≡ true → IsPlain b.path
zone-plain b t = inl ((two-of (in_calendar b) _ t).0)

pub event-begins : (e : Placed) → is_event e ≡ true → is_begin e ≡ true
event-begins e t = (two-of (is_begin e) _ ((two-of (in_calendar e || no_open e.path) _ t).1)).0

pub filter-same : (p q : Placed → Bool) (ks : List Placed) → ((l : Placed) → IsIn l ks → p l ≡ q l) → filter p ks ≡ filter q ks
filter-same p q [] each = refl
filter-same p q (k ∷ ks) each =
    let one = each k (inl refl) in
    let more = filter-same p q ks (λ l i. each l (inr i)) in
    λ i. cond (one i) (k ∷ more i) (more i)

module _ (ls : List Placed) (h : AreInPlace 0 [] ls) (part : Part) (is : IsPart ls part) where
  abbrev roots : Placed → Bool
  roots = roots_of ls part

  abbrev calendars : ℕ → Bool
  calendars = calendars_of part

  member : (e : Placed) → IsIn e part → IsIn e ls × (is_event e ≡ true)
  member e i = part-member ls part is e i

  -- a root, by the event that needs it
  pub record IsRootOf (b : Placed) : Type 0 where
    pub event : Placed
    pub among : IsIn event part
    pub by : (b ≡ event) ⊎ (is_zone_of ls event b ≡ true)

  root-is : (b : Placed) → IsIn b ls → roots b ≡ true → IsRootOf b
  root-is b i t =
      let f = in-any (λ event. root_by ls b event) part t in
      let m = member f.one f.among in
      record {
        event = f.one;
        among = f.among;
        by = ⊎_elim (λ e. inl (one-begin ls 0 [] h f.one b m.0 i (event-begins f.one m.1) (eqb-true b.number f.one.number e))) (λ e. inr e)
            (either-of (b.number == f.one.number) (is_zone_of ls f.one b) f.holds);
      }

  calendar-in : (e : Placed) → IsIn e part → calendars (calendar_of e.path) ≡ true
  calendar-in e i = any-in (λ event. calendar_of e.path == calendar_of event.path) part e i (eq-eqb (calendar_of e.path) (calendar_of e.path) refl)

  root-part : (b : Placed) → IsRootOf b → begins_part b ≡ true
  root-part b r =
      ⊎_elim (λ same. left-or (is_event b) (begins_zone b) (ap is_event same ∙ (member r.event r.among).1))
      (λ t. right-or (is_event b) (begins_zone b) (zone-parts ls r.event b t).0) r.by

  root-around : (b : Placed) → IsRootOf b → list_all (λ c. calendars c.begun) b.path ≡ true
  root-around b r =
      ⊎_elim (λ same.
      subst (λ (x : Placed). list_all (λ c. calendars c.begun) x.path ≡ true) (sym same)
      (around-plain calendars r.event.path (event-path r.event (member r.event r.among).1) (calendar-in r.event r.among))) (λ t.
      let two = zone-parts ls r.event b t in
      around-plain calendars b.path (zone-plain b two.0) (ap calendars two.1 ∙ calendar-in r.event r.among)) r.by

  -- the BEGIN line of a calendar
  begins-calendar : (l : Placed) → IsIn l ls → calendars l.number ≡ true → (is_begin l ≡ true) × (is_calendar_context (context_of (inside l)) ≡ true)
  begins-calendar l i t =
      let f = in-any (λ event. l.number == calendar_of event.path) part t in
      let m = member f.one f.among in
      by_path f.one.path (event-path f.one m.1) (opened ls h f.one m.0) (eqb-true l.number (calendar_of f.one.path) f.holds)
    where
      by_path : (path : List Open) → IsPlain path → AllOpened ls path → l.number ≡ calendar_of path →
          (is_begin l ≡ true) × (is_calendar_context (context_of (inside l)) ≡ true)
      by_path [] plain all e = let up = above ls 0 [] h l i in absurd (omega (arith, up.1, e))
      by_path (c ∷ d ∷ ds) plain all e = ⊎_elim (λ t. let no = deep-no-calendar c d ds in cc) (λ t. cc) plain
      by_path (c ∷ []) plain all e =
          let k = all.0 in
          let same : l ≡ k.begin = one-begin ls 0 [] h k.begin l k.among i k.begins (e ∙ sym k.number) in
          let calendar : is_calendar_context (context_of (c ∷ [])) ≡ true = ⊎_elim (λ t. t) (λ t. let no : false ≡ true = t in cc) plain in
          let like : context_of (inside k.begin) ≡ context_of (c ∷ []) = λ n. context_in (context_of (k.path n)) (component_of (k.called n)) in (
            ap is_begin same ∙ k.begins,
            ap (λ (x : Placed). is_calendar_context (context_of (inside x))) same ∙ ap is_calendar_context like ∙ calendar,
          )

  pub part_roots : AreRoots roots calendars ls
  part_roots = record {
    parts = λ b i t. root-part b (root-is b i t);
    around = λ b i t. root-around b (root-is b i t);
    begin = λ l i t. (begins-calendar l i t).0;
    calendar = λ l i t. (begins-calendar l i t).1;
  }

  -- THE LINES OF A PART are those.
  in-needs : (l : Placed) → IsIn l ls → is_in_part ls l part ≡ true → takes roots calendars ls l ≡ true
  in-needs l i t = by_need (either-of (is_of e l) (frames e l || list_any (λ begin. is_zone_of ls e begin && is_of begin l) ls) f.holds)
    where
      f : IsFound (λ event. needs ls event l) part
      f = in-any (λ event. needs ls event l) part t

      e : Placed
      e = f.one

      m : IsIn e ls × (is_event e ≡ true)
      m = member e f.among

      by_frame : ((l.number == calendar_of e.path) ≡ true)
          ⊎ ((in_calendar l && (innermost l.path == calendar_of e.path && (is_end l || is_named name.Version l))) ≡ true) →
          takes roots calendars ls l ≡ true
      by_frame (inl x) =
          begin-framed ls roots calendars l (any-in (λ event. l.number == calendar_of event.path) part e f.among x)
      by_frame (inr x) =
          let one = two-of (in_calendar l) _ x in
          let two = two-of (innermost l.path == calendar_of e.path) (is_end l || is_named name.Version l) one.1 in
          framed-taken ls roots calendars l (one.0, any-in (λ event. innermost l.path == calendar_of event.path) part e f.among two.0, two.1)

      by_zone : list_any (λ begin. is_zone_of ls e begin && is_of begin l) ls ≡ true → takes roots calendars ls l ≡ true
      by_zone x =
          let z = in-any (λ begin. is_zone_of ls e begin && is_of begin l) ls x in
          let both = two-of (is_zone_of ls e z.one) (is_of z.one l) z.holds in
          rooted-taken ls roots calendars z.one l z.among
          (any-in (λ event. root_by ls z.one event) part e f.among (right-or (z.one.number == e.number) (is_zone_of ls e z.one) both.0)) both.1

      by_need : (is_of e l ≡ true) ⊎ ((frames e l || list_any (λ begin. is_zone_of ls e begin && is_of begin l) ls) ≡ true) →
          takes roots calendars ls l ≡ true
      by_need (inl x) =
          rooted-taken ls roots calendars e l m.0
          (any-in (λ event. root_by ls e event) part e f.among (left-or (e.number == e.number) (is_zone_of ls e e) (eq-eqb e.number e.number refl))) x
      by_need (inr x) =
          ⊎_elim (λ y.
          by_frame (either-of (l.number == calendar_of e.path)
          (in_calendar l && (innermost l.path == calendar_of e.path && (is_end l || is_named name.Version l))) y)) by_zone
          (either-of (frames e l) (list_any (λ begin. is_zone_of ls e begin && is_of begin l) ls) x)

  needs-in : (l : Placed) → IsIn l ls → takes roots calendars ls l ≡ true → is_in_part ls l part ≡ true
  needs-in l i t = by_taken (taken-is ls roots calendars l t)
    where
      by_event : (e : Placed) → IsIn e part → needs ls e l ≡ true → is_in_part ls l part ≡ true
      by_event e j x = any-in (λ event. needs ls event l) part e j x

      by_root : (r : IsRooted roots ls l) → IsRootOf r.root → is_in_part ls l part ≡ true
      by_root r o =
          by_event o.event o.among
          (⊎_elim (λ same. left-or (is_of o.event l) _ (ap (λ (x : Placed). is_of x l) (sym same) ∙ r.of)) (λ z.
          right-or (is_of o.event l) _
          (right-or (frames o.event l) _
          (any-in (λ begin. is_zone_of ls o.event begin && is_of begin l) ls r.root r.among
          (both-true (is_zone_of ls o.event r.root) (is_of r.root l) z r.of)))) o.by)

      by_number : calendars l.number ≡ true → is_in_part ls l part ≡ true
      by_number x =
          let f = in-any (λ event. l.number == calendar_of event.path) part x in
          by_event f.one f.among (right-or (is_of f.one l) _ (left-or (frames f.one l) _ (left-or (l.number == calendar_of f.one.path) _ f.holds)))

      by_frame : IsFramed calendars l → is_in_part ls l part ≡ true
      by_frame x =
          let f = in-any (λ event. innermost l.path == calendar_of event.path) part x.1 in
          by_event f.one f.among
          (right-or (is_of f.one l) _ (left-or (frames f.one l) _ (right-or (l.number == calendar_of f.one.path) _ (rw (x.0, f.holds, x.2) refl))))

      by_taken : IsTaken roots calendars ls l → is_in_part ls l part ≡ true
      by_taken (inl r) = by_root r (root-is r.root r.among r.chosen)
      by_taken (inr (inl x)) = by_number x
      by_taken (inr (inr x)) = by_frame x

  pub part_lines : lines_of ls part ≡ filter (takes roots calendars ls) ls
  part_lines =
      filter-same (λ l. is_in_part ls l part) (takes roots calendars ls) ls
      (λ l i. same-truth ls h (is_in_part ls l part) (takes roots calendars ls l) (in-needs l i) (needs-in l i))

-- AMONG OTHERS.
abbrev Member : {X : Type 0} → X → List X → Type 0
Member x [] = ⊥
Member x (y ∷ ys) = (y ≡ x) ⊎ Member x ys

record IsMade {X : Type 0} (fault : X → Option Fault) (xs : List X) (g : Fault) : Type 0 where
  one : X
  among : Member one xs
  is : fault one ≡ Some g

record IsOne {X : Type 0} (p : X → Bool) (xs : List X) : Type 0 where
  one : X
  among : Member one xs
  holds : p one ≡ true

has-map : {X : Type 0} (fault : X → Option Fault) (xs : List X) (g : Fault) → Has (map fault xs) g → IsMade fault xs g
has-map fault [] g h = absurd h
has-map fault (x ∷ xs) g h = ⊎_elim (λ e. record { one = x; among = inl refl; is = e }) (λ m. behind (has-map fault xs g m)) h
  where
    behind : IsMade fault xs g → IsMade fault (x ∷ xs) g
    behind i = record { one = i.one; among = inr i.among; is = i.is }

map-has : {X : Type 0} (fault : X → Option Fault) (xs : List X) (x : X) (g : Fault) → Member x xs → fault x ≡ Some g → Has (map fault xs) g
map-has fault [] x g m e = absurd m
map-has fault (y ∷ ys) x g m e = ⊎_elim (λ same. inl (ap fault same ∙ e)) (λ n. inr (map-has fault ys x g n e)) m

any-one : {X : Type 0} (p : X → Bool) (xs : List X) → list_any p xs ≡ true → IsOne p xs
any-one p [] e = cc
any-one p (x ∷ xs) e =
    ⊎_elim (λ t. record { one = x; among = inl refl; holds = t }) (λ t. behind (any-one p xs t)) (either-of (p x) (list_any p xs) e)
  where
    behind : IsOne p xs → IsOne p (x ∷ xs)
    behind i = record { one = i.one; among = inr i.among; holds = i.holds }

one-any : {X : Type 0} (p : X → Bool) (xs : List X) (x : X) → Member x xs → p x ≡ true → list_any p xs ≡ true
one-any p [] x m e = absurd m
one-any p (y ∷ ys) x m e =
    ⊎_elim (λ same. left-or (p y) (list_any p ys) (ap p same ∙ e)) (λ n. right-or (p y) (list_any p ys) (one-any p ys x n e)) m

has-append : (xs ys : List (Option Fault)) (g : Fault) → Has (xs ++ ys) g → Has xs g ⊎ Has ys g
has-append [] ys g h = inr h
has-append (x ∷ xs) ys g h =
    ⊎_elim (λ e. inl (inl e)) (λ m. ⊎_elim (λ a. inl (inr a)) (λ b. inr b) (has-append xs ys g m)) h

append-left : (xs ys : List (Option Fault)) (g : Fault) → Has xs g → Has (xs ++ ys) g
append-left [] ys g h = absurd h
append-left (x ∷ xs) ys g h = ⊎_elim (λ e. inl e) (λ m. inr (append-left xs ys g m)) h

append-right : (xs ys : List (Option Fault)) (g : Fault) → Has ys g → Has (xs ++ ys) g
append-right [] ys g h = h
append-right (x ∷ xs) ys g h = inr (append-right xs ys g h)

least-append : (xs ys : List (Option Fault)) → least (xs ++ ys) ≡ earlier (least xs) (least ys)
least-append [] ys = refl
least-append (x ∷ xs) ys = ap (earlier x) (least-append xs ys) ∙ sym (earlier-more x (least xs) (least ys))

record IsAmong (fault : Placed → List (Option Fault)) (part : Part) (g : Fault) : Type 0 where
  event : Placed
  among : IsIn event part
  has : Has (fault event) g

has-flat : (faults : Placed → List (Option Fault)) (part : Part) (g : Fault) → Has (flat_map faults part) g → IsAmong faults part g
has-flat faults [] g h = absurd h
has-flat faults (e ∷ es) g h =
    ⊎_elim (λ a. record { event = e; among = inl refl; has = a }) (λ m. behind (has-flat faults es g m)) (has-append (faults e) (flat_map faults es) g h)
  where
    behind : IsAmong faults es g → IsAmong faults (e ∷ es) g
    behind i = record { event = i.event; among = inr i.among; has = i.has }

flat-has : (faults : Placed → List (Option Fault)) (part : Part) (e : Placed) (g : Fault) → IsIn e part → Has (faults e) g → Has (flat_map faults part) g
flat-has faults [] e g i h = absurd i
flat-has faults (k ∷ ks) e g i h =
    ⊎_elim (λ same. append-left (faults k) (flat_map faults ks) g (subst (λ (x : Placed). Has (faults x) g) (sym same) h))
    (λ j. append-right (faults k) (flat_map faults ks) g (flat-has faults ks e g j h)) i

-- THE FIRST FAULT OF A CALENDAR stands on one of its VERSION lines, at or before each.
abbrev is_old : Placed → Bool
is_old l = in_calendar l && (is_named name.Version l && bytes_eq (value l) (codes "1.0"))

record IsCalendars (ks : List Placed) (n : ℕ) (g : Fault) : Type 0 where
  line : Placed
  among : IsIn line ks
  inside : in_calendar line ≡ true
  number : innermost line.path ≡ n
  faulty : version_fault line ≡ Some g

calendar-is : (ks : List Placed) (n : ℕ) (g : Fault) → calendar_fault (flat_map version_faults ks) n ≡ Some g → IsCalendars ks n g
calendar-is [] n g e = cc
calendar-is (k ∷ ks) n g e = by_test (λ x. calendar-is ks n g x) (is_old k) refl e
  where
    behind : IsCalendars ks n g → IsCalendars (k ∷ ks) n g
    behind c = record { line = c.line; among = inr c.among; inside = c.inside; number = c.number; faulty = c.faulty }

    by_number : (calendar_fault (flat_map version_faults ks) n ≡ Some g → IsCalendars ks n g) → is_old k ≡ true → (t : Bool) → (innermost k.path == n) ≡ t →
        cond t (Some (record { line = k.number; kind = OldVersion })) (calendar_fault (flat_map version_faults ks) n) ≡ Some g → IsCalendars (k ∷ ks) n g
    by_number later old false i e = behind (later e)
    by_number later old true i e = record {
      line = k;
      among = inl refl;
      inside = (two-of (in_calendar k) _ old).0;
      number = eqb-true (innermost k.path) n i;
      faulty = ap (λ t. cond t (Some (record { line = k.number; kind = OldVersion })) None) old ∙ e;
    }

    by_test : (calendar_fault (flat_map version_faults ks) n ≡ Some g → IsCalendars ks n g) → (t : Bool) → is_old k ≡ t →
        calendar_fault (cond t ((innermost k.path, record { line = k.number; kind = OldVersion }) ∷ []) [] ++ flat_map version_faults ks) n ≡ Some g →
        IsCalendars (k ∷ ks) n g
    by_test later false old e = behind (later e)
    by_test later true old e = by_number later old (innermost k.path == n) refl e

version-line : (l : Placed) (f : Fault) → version_fault l ≡ Some f → (f.line ≡ l.number) × (is_old l ≡ true)
version-line l f e = by_test (is_old l) refl e
  where
    some-is : (a b : Fault) → Some a ≡ Some b → a ≡ b
    some-is a b e = cc

    by_test : (t : Bool) → is_old l ≡ t → cond t (Some (record { line = l.number; kind = OldVersion })) None ≡ Some f → (f.line ≡ l.number) × (is_old l ≡ true)
    by_test false o e = cc
    by_test true o e = (ap (λ (x : Fault). x.line) (sym (some-is (record { line = l.number; kind = OldVersion }) f e)), o)

calendar-before : (ks : List Placed) (n : ℕ) (path : List Open) → AreInPlace n path ks → (l : Placed) → IsIn l ks → is_old l ≡ true →
    IsBefore (calendar_fault (flat_map version_faults ks) (innermost l.path)) l.number
calendar-before [] n path h l i o = absurd i
calendar-before (m ∷ ms) n path h l i o = by_place (λ j. calendar-before ms m.number (path_behind m) h.4 l j o) i
  where
    here : m ≡ l → IsBefore (calendar_fault (flat_map version_faults (m ∷ ms)) (innermost l.path)) l.number
    here same =
        let old : is_old m ≡ true = ap is_old same ∙ o in
        let equal : (innermost m.path == innermost l.path) ≡ true =
        eq-eqb (innermost m.path) (innermost l.path) (ap (λ (x : Placed). innermost x.path) same) in
        record {
          fault = record { line = m.number; kind = OldVersion };
          is = rw (old, equal) refl;
          before = omega (arith, ap (λ (x : Placed). x.number) same);
        }

    by_number : IsBefore (calendar_fault (flat_map version_faults ms) (innermost l.path)) l.number → m.number ≤ l.number → (t : Bool) →
        IsBefore (cond t (Some (record { line = m.number; kind = OldVersion })) (calendar_fault (flat_map version_faults ms) (innermost l.path))) l.number
    by_number later le false = later
    by_number later le true = record { fault = record { line = m.number; kind = OldVersion }; is = refl; before = le }

    by_test : IsBefore (calendar_fault (flat_map version_faults ms) (innermost l.path)) l.number → m.number ≤ l.number → (t : Bool) →
        IsBefore
        (calendar_fault (cond t ((innermost m.path, record { line = m.number; kind = OldVersion }) ∷ []) [] ++ flat_map version_faults ms)
        (innermost l.path)) l.number
    by_test later le false = later
    by_test later le true = by_number later le (innermost m.path == innermost l.path)

    by_place : (IsIn l ms → IsBefore (calendar_fault (flat_map version_faults ms) (innermost l.path)) l.number) → (m ≡ l) ⊎ IsIn l ms →
        IsBefore (calendar_fault (flat_map version_faults (m ∷ ms)) (innermost l.path)) l.number
    by_place later (inl same) = here same
    by_place later (inr j) = by_test (later j) (above ms m.number (path_behind m) h.4 l j).0 (is_old m)

-- THE FIRST FAULT OF THE TIME ZONES OF ONE NAME is that of one of them, at or before each.
fault-same : (r : Result ParsedFileSeen Fault) → fault_read r ≡ fault_of r
fault-same (Ok had) = refl
fault-same (Err f) = refl

record IsZones (cs : List PartedComponentSeen) (used : ZoneName) (g : Fault) : Type 0 where
  one : PartedComponentSeen
  among : Member one cs
  called : has_name one.calendar one.names used ≡ true
  faulty : fault_read one.read ≡ Some g

zone-is : (cs : List PartedComponentSeen) (used : ZoneName) (g : Fault) → zone_fault cs used ≡ Some g → IsZones cs used g
zone-is [] used g e = cc
zone-is (c ∷ cs) used g e = by_test (λ x. zone-is cs used g x) (has_name c.calendar c.names used) refl e
  where
    behind : IsZones cs used g → IsZones (c ∷ cs) used g
    behind z = record { one = z.one; among = inr z.among; called = z.called; faulty = z.faulty }

    by_fault : (zone_fault cs used ≡ Some g → IsZones cs used g) → has_name c.calendar c.names used ≡ true → (o : Option Fault) → fault_read c.read ≡ o →
        option_or o (zone_fault cs used) ≡ Some g → IsZones (c ∷ cs) used g
    by_fault later t None f e = behind (later e)
    by_fault later t (Some k) f e = record { one = c; among = inl refl; called = t; faulty = f ∙ e }

    by_test : (zone_fault cs used ≡ Some g → IsZones cs used g) → (t : Bool) → has_name c.calendar c.names used ≡ t →
        option_or (cond t (fault_read c.read) None) (zone_fault cs used) ≡ Some g → IsZones (c ∷ cs) used g
    by_test later false t e = behind (later e)
    by_test later true t e = by_fault later t (fault_read c.read) refl e

zone-before : (cs : List PartedComponentSeen) (n : ℕ) (used : ZoneName) → Rise n (map (λ c. fault_of c.read) cs) → (one : PartedComponentSeen) → Member one cs →
    has_name one.calendar one.names used ≡ true → (f : Fault) → fault_of one.read ≡ Some f → IsBefore (zone_fault cs used) f.line
zone-before [] n used r one m t f e = absurd m
zone-before (c ∷ cs) n used r one m t f e = by_fault (fault_of c.read) refl (λ k q j. zone-before cs k used q one j t f e) r m
  where
    here : c ≡ one → IsBefore (zone_fault (c ∷ cs) used) f.line
    here same =
        let called : has_name c.calendar c.names used ≡ true = ap (λ (x : PartedComponentSeen). has_name x.calendar x.names used) same ∙ t in
        let faulty : fault_read c.read ≡ Some f = fault-same c.read ∙ ap (λ (x : PartedComponentSeen). fault_of x.read) same ∙ e in
        record { fault = f; is = rw (called, faulty) refl; before = omega arith }

    none : fault_of c.read ≡ None → IsBefore (zone_fault cs used) f.line → IsBefore (zone_fault (c ∷ cs) used) f.line
    none o later = by_test (has_name c.calendar c.names used)
      where
        by_test : (b : Bool) → IsBefore (option_or (cond b (fault_read c.read) None) (zone_fault cs used)) f.line
        by_test false = later
        by_test true = rw (fault-same c.read ∙ o) later

    some : (k : Fault) → fault_of c.read ≡ Some k → k.line ≤ f.line → IsBefore (zone_fault cs used) f.line → IsBefore (zone_fault (c ∷ cs) used) f.line
    some k o le later = by_test (has_name c.calendar c.names used)
      where
        by_test : (b : Bool) → IsBefore (option_or (cond b (fault_read c.read) None) (zone_fault cs used)) f.line
        by_test false = later
        by_test true = rw (fault-same c.read ∙ o) (record { fault = k; is = refl; before = le })

    by_fault : (o : Option Fault) → fault_of c.read ≡ o →
        ((k : ℕ) → Rise k (map (λ c. fault_of c.read) cs) → Member one cs → IsBefore (zone_fault cs used) f.line) →
        Rise n (o ∷ map (λ c. fault_of c.read) cs) → (c ≡ one) ⊎ Member one cs → IsBefore (zone_fault (c ∷ cs) used) f.line
    by_fault None o later r m = ⊎_elim here (λ j. none o (later n r j)) m
    by_fault (Some k) o later r m =
        ⊎_elim here (λ j.
        let less = rise-has (map (λ c. fault_of c.read) cs) k.line f r.1 (map-has (λ c. fault_of c.read) cs one f j e) in
        some k o (omega (arith, less)) (later k.line r.1 j)) m

record IsSeen (ls zs : List Placed) (one : PartedComponentSeen) : Type 0 where
  zone : Placed
  among : IsIn zone zs
  seen : component_seen ls zone ≡ one

seen-of : (ls zs : List Placed) (one : PartedComponentSeen) → Member one (map (component_seen ls) zs) → IsSeen ls zs one
seen-of ls [] one m = absurd m
seen-of ls (z ∷ zs) one m = ⊎_elim (λ e. record { zone = z; among = inl refl; seen = e }) (λ j. behind (seen-of ls zs one j)) m
  where
    behind : IsSeen ls zs one → IsSeen ls (z ∷ zs) one
    behind s = record { zone = s.zone; among = inr s.among; seen = s.seen }

seen-in : (ls zs : List Placed) (z : Placed) → IsIn z zs → Member (component_seen ls z) (map (component_seen ls) zs)
seen-in ls [] z i = absurd i
seen-in ls (y ∷ ys) z i = ⊎_elim (λ same. inl (ap (component_seen ls) same)) (λ j. inr (seen-in ls ys z j)) i

some-line : (p : Placed → Bool) (ks : List Placed) (e : Placed) → IsIn e (filter p ks) → if_empty (filter p ks) ≡ None
some-line p ks e i = by_list (filter p ks) i
  where
    by_list : (xs : List Placed) → IsIn e xs → if_empty xs ≡ None
    by_list [] i = absurd i
    by_list (x ∷ xs) i = refl

module _ (ls : List Placed) (h : AreInPlace 0 [] ls) (apart : AreApart 0 ls) (part : Part) (is : IsPart ls part) where
  abbrev zones : List PartedComponentSeen
  zones = map (component_seen ls) (filter begins_zone ls)

  abbrev used : Placed → List ℕ → ZoneName
  used e zone = record { calendar = innermost e.path; name = zone }

  -- what an event needs, one by one
  abbrev needed : Placed → List (Option Fault)
  needed e =
      fault_read (component_seen ls e).read ∷ calendar_fault (flat_map version_faults ls) (innermost e.path)
      ∷ map (λ zone. zone_fault zones (used e zone)) (zones_named ls e)

  needed-least : (e : Placed) → fault_needed (parted_lines ls) (component_seen ls e) ≡ least (needed e)
  needed-least e =
      ap (earlier (fault_read (component_seen ls e).read))
      (fold_least (λ zone. zone_fault zones (used e zone)) (calendar_fault (flat_map version_faults ls) (innermost e.path)) (zones_named ls e))

  all-needed : (es : Part) → least (map (λ e. fault_needed (parted_lines ls) (component_seen ls e)) es) ≡ least (flat_map needed es)
  all-needed [] = refl
  all-needed (e ∷ es) =
      (λ i. earlier (needed-least e i) (all-needed es i)) ∙ sym (least-append (needed e) (flat_map needed es))

  rises : Rise 0 (map (λ c. fault_of c.read) zones)
  rises = subst (λ (os : List (Option Fault)). Rise 0 os) (zones-read ls h ls) (faults_rise begins_zone ls h apart)

  own-fault : (b : Placed) → begins_part b ≡ true → item_fault ls b ≡ fault_of (component_seen ls b).read
  own-fault b t = rw t refl

  event-plain : (e : Placed) → IsIn e part → IsPlain e.path
  event-plain e i = event-path e (part-member ls part is e i).1

  event-root : (e : Placed) → IsIn e part → roots_of ls part e ≡ true
  event-root e i =
      any-in (λ event. root_by ls e event) part e i (left-or (e.number == e.number) (is_zone_of ls e e) (eq-eqb e.number e.number refl))

  zone-of-name : (e z : Placed) (zone : List ℕ) → IsIn e part → begins_zone z ≡ true → Member zone (zones_named ls e) →
      has_name (innermost z.path) (texts_in name.Tzid ls z) (used e zone) ≡ true → is_zone_of ls e z ≡ true
  zone-of-name e z zone i t m called =
      let f = any-one (λ n. is_same (used e zone) (record { calendar = innermost z.path; name = n })) (texts_in name.Tzid ls z) called in
      let both = two-of (innermost e.path == innermost z.path) (bytes_eq zone f.one) f.holds in
      let same : calendar_of z.path ≡ calendar_of e.path =
      sym (calendar-plain z.path (zone-plain z t)) ∙ sym (eqb-true (innermost e.path) (innermost z.path) both.0) ∙ calendar-plain e.path (event-plain e i) in
      both-true (begins_zone z) _ t
      (both-true (calendar_of z.path == calendar_of e.path) _ (eq-eqb (calendar_of z.path) (calendar_of e.path) same)
      (one-any (λ n. list_any (bytes_eq n) (texts_in name.Tzid ls z)) (zones_named ls e) zone m
      (one-any (bytes_eq zone) (texts_in name.Tzid ls z) f.one f.among both.1)))

  needed-is : (g : Fault) → Has (flat_map needed part) g → IsOfRoot (roots_of ls part) ls g ⊎ IsOfVersion (calendars_of part) ls g
  needed-is g has = by_place a.has
    where
      a : IsAmong needed part g
      a = has-flat needed part g has

      e : Placed
      e = a.event

      m : IsIn e ls × (is_event e ≡ true)
      m = part-member ls part is e a.among

      by_calendar : IsCalendars ls (innermost e.path) g → IsOfVersion (calendars_of part) ls g
      by_calendar c = record {
        line = c.line;
        among = c.among;
        inside = c.inside;
        chosen =
            any-in (λ event. innermost c.line.path == calendar_of event.path) part e a.among
            (eq-eqb (innermost c.line.path) (calendar_of e.path) (c.number ∙ calendar-plain e.path (event-plain e a.among)));
        faulty = c.faulty;
      }

      by_zone : (zone : List ℕ) → Member zone (zones_named ls e) → IsZones zones (used e zone) g → IsOfRoot (roots_of ls part) ls g
      by_zone zone n z = by_seen (seen-of ls (filter begins_zone ls) z.one z.among)
        where
          by_seen : IsSeen ls (filter begins_zone ls) z.one → IsOfRoot (roots_of ls part) ls g
          by_seen s =
              let two = in-filter begins_zone ls s.zone s.among in
              let called = ap (λ (x : PartedComponentSeen). has_name x.calendar x.names (used e zone)) s.seen ∙ z.called in
              let by_event = zone-of-name e s.zone zone a.among two.1 n called in
              record {
                root = s.zone;
                among = two.0;
                chosen = any-in (λ event. root_by ls s.zone event) part e a.among (right-or (s.zone.number == e.number) (is_zone_of ls e s.zone) by_event);
                faulty =
                    own-fault s.zone (right-or (is_event s.zone) (begins_zone s.zone) two.1) ∙ ap (λ (x : PartedComponentSeen). fault_of x.read) s.seen
                    ∙ sym (fault-same z.one.read) ∙ z.faulty;
              }

      by_place : Has (needed e) g → IsOfRoot (roots_of ls part) ls g ⊎ IsOfVersion (calendars_of part) ls g
      by_place (inl x) =
          inl (record {
            root = e;
            among = m.0;
            chosen = event-root e a.among;
            faulty = own-fault e (left-or (is_event e) (begins_zone e) m.1) ∙ sym (fault-same (component_seen ls e).read) ∙ x;
          })
      by_place (inr (inl x)) = inr (by_calendar (calendar-is ls (innermost e.path) g x))
      by_place (inr (inr x)) =
          let z = has-map (λ zone. zone_fault zones (used e zone)) (zones_named ls e) g x in
          inl (by_zone z.one z.among (zone-is zones (used e z.one) g z.is))

  by_root : (f : Fault) → IsOfRoot (roots_of ls part) ls f → IsCovered (flat_map needed part) f
  by_root f r = by_event (root-is ls h part is r.root r.among r.chosen)
    where
      by_same : (e : Placed) → IsIn e part → r.root ≡ e → IsCovered (flat_map needed part) f
      by_same e i same = record {
        by = f;
        has = flat-has needed part e f i (inl (
            fault-same (component_seen ls e).read
            ∙ sym (own-fault e (left-or (is_event e) (begins_zone e) (part-member ls part is e i).1))
            ∙ ap (item_fault ls) (sym same) ∙ r.faulty));
        before = omega arith;
      }

      by_zone : (e : Placed) → IsIn e part → is_zone_of ls e r.root ≡ true → IsCovered (flat_map needed part) f
      by_zone e i t =
          let z : Placed = r.root in
          let one = two-of (begins_zone z) _ t in
          let two = two-of (calendar_of z.path == calendar_of e.path) _ one.1 in
          let zone = any-one (λ n. list_any (bytes_eq n) (texts_in name.Tzid ls z)) (zones_named ls e) two.1 in
          let text = any-one (bytes_eq zone.one) (texts_in name.Tzid ls z) zone.holds in
          let same : innermost e.path ≡ innermost z.path =
          calendar-plain e.path (event-plain e i) ∙ sym (eqb-true (calendar_of z.path) (calendar_of e.path) two.0)
          ∙ sym (calendar-plain z.path (zone-plain z one.0)) in
          let called : has_name (innermost z.path) (texts_in name.Tzid ls z) (used e zone.one) ≡ true =
          one-any (λ n. is_same (used e zone.one) (record { calendar = innermost z.path; name = n })) (texts_in name.Tzid ls z) text.one text.among
          (both-true (innermost e.path == innermost z.path) (bytes_eq zone.one text.one) (eq-eqb (innermost e.path) (innermost z.path) same) text.holds) in
          let faulty : fault_of (component_seen ls z).read ≡ Some f =
          sym (own-fault z (right-or (is_event z) (begins_zone z) one.0)) ∙ r.faulty in
          let first =
          zone-before zones 0 (used e zone.one) rises (component_seen ls z)
          (seen-in ls (filter begins_zone ls) z (filter-in begins_zone ls z r.among one.0)) called f faulty in
          record {
            by = first.fault;
            has =
                flat-has needed part e first.fault i
                (inr (inr (map-has (λ zone. zone_fault zones (used e zone)) (zones_named ls e) zone.one first.fault zone.among first.is)));
            before = first.before;
          }

      by_event : IsRootOf ls h part is r.root → IsCovered (flat_map needed part) f
      by_event o = ⊎_elim (λ same. by_same o.event o.among same) (λ t. by_zone o.event o.among t) o.by

  by_version : (f : Fault) → IsOfVersion (calendars_of part) ls f → IsCovered (flat_map needed part) f
  by_version f v =
      let l : Placed = v.line in
      let e = in-any (λ event. innermost l.path == calendar_of event.path) part v.chosen in
      let same : innermost l.path ≡ innermost e.one.path =
      eqb-true (innermost l.path) (calendar_of e.one.path) e.holds ∙ sym (calendar-plain e.one.path (event-plain e.one e.among)) in
      let line = version-line l f v.faulty in
      let first = calendar-before ls 0 [] h l v.among line.1 in
      record {
        by = first.fault;
        has =
            flat-has needed part e.one first.fault e.among
            (inr (inl (ap (calendar_fault (flat_map version_faults ls)) (sym same) ∙ first.is)));
        before = omega (arith, first.before, line.0);
      }

  -- THE FIRST FAULT OF A PART.
  pub part_first : is_well_nested ls ≡ true → (e : Placed) → IsIn e part →
      first_fault (lines_of ls part) ≡ fold (λ first event. earlier first (fault_needed (parted_lines ls) (component_seen ls event))) None part
  part_first nested e i =
      let took : Placed → Bool = takes (roots_of ls part) (calendars_of part) ls in
      let there = (part-member ls part is e i).0 in
      let own = rooted-taken ls (roots_of ls part) (calendars_of part) e e there (event-root e i) (own-line ls h e) in
      ap first_fault (part_lines ls h part is)
      ∙ roots_least ls h (roots_of ls part) (calendars_of part) (part_roots ls h part is) (flat_map needed part) by_root by_version nested apart
      (some-line took ls e (filter-in took ls e there own)) needed-is
      ∙ sym (all-needed part)
      ∙ sym (fold_least (λ event. fault_needed (parted_lines ls) (component_seen ls event)) None part)

-- SEVERAL PARTS are as one of all their events.
list-any-append : (p : Placed → Bool) (xs ys : List Placed) → list_any p (xs ++ ys) ≡ (list_any p xs || list_any p ys)
list-any-append p [] ys = refl
list-any-append p (x ∷ xs) ys = ap (λ t. p x || t) (list-any-append p xs ys) ∙ or-more (p x) (list_any p xs) (list_any p ys)
  where
    or-more : (a b c : Bool) → (a || (b || c)) ≡ ((a || b) || c)
    or-more a b c = grind arith

any-part : (p : Placed → Bool) (parts : List Part) → list_any (λ part. list_any p part) parts ≡ list_any p (flat_map (λ part. part) parts)
any-part p [] = refl
any-part p (part ∷ parts) =
    ap (λ t. list_any p part || t) (any-part p parts) ∙ sym (list-any-append p part (flat_map (λ part. part) parts))

pub all_lines : (ls : List Placed) (parts : List Part) → lines_of_all ls parts ≡ lines_of ls (flat_map (λ part. part) parts)
all_lines ls parts = same-filter (λ l. list_any (is_in_part ls l) parts) (λ l. is_in_part ls l (flat_map (λ part. part) parts)) ls
    (λ l. any-part (λ event. needs ls event l) parts)
  where
    same-filter : (p q : Placed → Bool) (ks : List Placed) → ((l : Placed) → p l ≡ q l) → filter p ks ≡ filter q ks
    same-filter p q [] each = refl
    same-filter p q (k ∷ ks) each = let one = each k in let more = same-filter p q ks each in λ i. cond (one i) (k ∷ more i) (more i)

-- WHAT IS GATHERED of a part, or of several as one, where no fault stands in its lines.
pub part_parsed : (ls : List Placed) → AreInPlace 0 [] ls → is_well_nested ls ≡ true → (part : Part) → IsPart ls part → first_fault (lines_of ls part) ≡ None →
    parsed_from (lines_of ls part) nothing_parsed [] (lines_of ls part) ≡ each_parsed ls (filter begins_part (lines_of ls part))
part_parsed ls h nested part is none =
    let taken : Placed → Bool = takes (roots_of ls part) (calendars_of part) ls in
    let same = part_lines ls h part is in
    let chosen = roots_chosen ls h (roots_of ls part) (calendars_of part) (part_roots ls h part is) nested in
    subst (λ (ks : List Placed). parsed_from ks nothing_parsed [] ks ≡ each_parsed ls (filter begins_part ks)) (sym same)
    (chosen_parsed taken (begins_taken taken ls) ls chosen (ap first_fault (sym same) ∙ none))

pub part_in_place : (ls : List Placed) → AreInPlace 0 [] ls → is_well_nested ls ≡ true → (part : Part) → IsPart ls part → AreInPlace 0 [] (lines_of ls part)
part_in_place ls h nested part is =
    let taken : Placed → Bool = takes (roots_of ls part) (calendars_of part) ls in
    subst (λ (ks : List Placed). AreInPlace 0 [] ks) (sym (part_lines ls h part is))
    (chosen_in_place taken (begins_taken taken ls) ls (roots_chosen ls h (roots_of ls part) (calendars_of part) (part_roots ls h part is) nested))

-- ITS EVENTS AND ITS TIME ZONES, as those of the file that are in it.
pub filter-twice : (p q : Placed → Bool) (ks : List Placed) → filter p (filter q ks) ≡ filter (λ k. q k && p k) ks
filter-twice p q [] = refl
filter-twice p q (k ∷ ks) = by_test (q k) (filter-twice p q ks)
  where
    by_test : (t : Bool) → filter p (filter q ks) ≡ filter (λ k. q k && p k) ks →
        filter p (cond t (k ∷ filter q ks) (filter q ks)) ≡ cond (t && p k) (k ∷ filter (λ k. q k && p k) ks) (filter (λ k. q k && p k) ks)
    by_test true more = ap (λ (xs : List Placed). cond (p k) (k ∷ xs) xs) more
    by_test false more = more

pub some-of : {X : Type 0} (f : Placed → List X) (q : Placed → Bool) (ks : List Placed) → ((k : Placed) → IsIn k ks → q k ≡ false → f k ≡ []) →
    flat_map f ks ≡ flat_map f (filter q ks)
some-of f q [] none = refl
some-of f q (k ∷ ks) none = by_test (q k) refl (some-of f q ks (λ m i. none m (inr i)))
  where
    by_test : (t : Bool) → q k ≡ t → flat_map f ks ≡ flat_map f (filter q ks) → f k ++ flat_map f ks ≡ flat_map f (cond t (k ∷ filter q ks) (filter q ks))
    by_test true t more = ap (λ xs. f k ++ xs) more
    by_test false t more = ap (λ xs. xs ++ flat_map f ks) (none k (inl refl) t) ∙ more

abbrev pub is_event_of : Part → Placed → Bool
is_event_of part e = list_any (λ event. e.number == event.number) part

abbrev pub is_zone_for : List Placed → Part → Placed → Bool
is_zone_for ls part z = list_any (λ event. is_zone_of ls event z) part

-- A time zone gathers neither events nor checks, and an event no time zones.
module _ (ls : List Placed) (h : AreInPlace 0 [] ls) (k : Placed) (i : IsIn k ls) (begins : begins_part k ≡ true) where
  zone-or-event : is_event k ≡ false → begins_zone k ≡ true
  zone-or-event e = sym (ap (λ t. t || begins_zone k) e) ∙ begins

  no-zone : begins_zone k ≡ false → is_event k ≡ true
  no-zone e = by_test (is_event k) refl
    where
      by_test : (t : Bool) → is_event k ≡ t → t ≡ true
      by_test true x = refl
      by_test false x = never-both (begins_zone k) (zone-or-event x) e

  pub zone-nothing : is_event k ≡ false → ((parsed_in (item_read ls k)).events ≡ []) × ((parsed_in (item_read ls k)).checks ≡ [])
  zone-nothing e = rw begins (by_read (block_read ls k) (zone_gathers ls h k i (zone-or-event e)))
    where
      by_read : (r : LinesRead) → ((last : List Frame) (more : ParsedFileSeen) → r ≡ Reads last more → (more.events ≡ []) × (more.checks ≡ [])) →
          ((parsed_in (gathered_in r)).events ≡ []) × ((parsed_in (gathered_in r)).checks ≡ [])
      by_read (Broken f) gathers = (refl, refl)
      by_read (Reads last more) gathers = gathers last more refl

  pub event-nothing : begins_zone k ≡ false → (parsed_in (item_read ls k)).zones ≡ []
  event-nothing e = rw begins (by_read (block_read ls k) (event_gathers ls h k i (no-zone e)))
    where
      by_read : (r : LinesRead) → ((last : List Frame) (more : ParsedFileSeen) → r ≡ Reads last more → more.zones ≡ []) →
          (parsed_in (gathered_in r)).zones ≡ []
      by_read (Broken f) gathers = refl
      by_read (Reads last more) gathers = gathers last more refl

module _ (ls : List Placed) (h : AreInPlace 0 [] ls) (part : Part) (is : IsPart ls part) where
  pub root-there : (k : Placed) → IsIn k ls → is_in_part ls k part ≡ true → begins_part k ≡ true → IsRootOf ls h part is k
  root-there k i t b =
      root-is ls h part is k i
      (root-of ls h (roots_of ls part) (calendars_of part) (part_roots ls h part is) k i b
      (taken-is ls (roots_of ls part) (calendars_of part) k (in-needs ls h part is k i t)))

  there-root : (k : Placed) → IsIn k ls → roots_of ls part k ≡ true → is_in_part ls k part ≡ true
  there-root k i r = needs-in ls h part is k i (rooted-taken ls (roots_of ls part) (calendars_of part) k k i r (own-line ls h k))

  event-there : (k : Placed) → IsIn k ls → ((is_in_part ls k part && begins_part k) && is_event k) ≡ true → (is_event k && is_event_of part k) ≡ true
  event-there k i t =
      let one = two-of (is_in_part ls k part && begins_part k) (is_event k) t in
      let two = two-of (is_in_part ls k part) (begins_part k) one.0 in
      let r = root-there k i two.0 two.1 in
      both-true (is_event k) (is_event_of part k) one.1
      (⊎_elim (λ same.
      any-in (λ event. k.number == event.number) part r.event r.among (eq-eqb k.number r.event.number (ap (λ (x : Placed). x.number) same))) (λ z.
      never-both (begins_zone k) (zone-parts ls r.event k z).0 (event-no-zone k one.1)) r.by)

  there-event : (k : Placed) → IsIn k ls → (is_event k && is_event_of part k) ≡ true → ((is_in_part ls k part && begins_part k) && is_event k) ≡ true
  there-event k i t =
      let one = two-of (is_event k) (is_event_of part k) t in
      let f = in-any (λ event. k.number == event.number) part one.1 in
      let root = any-in (λ event. root_by ls k event) part f.one f.among (left-or (k.number == f.one.number) (is_zone_of ls f.one k) f.holds) in
      both-true (is_in_part ls k part && begins_part k) (is_event k)
      (both-true (is_in_part ls k part) (begins_part k) (there-root k i root) (left-or (is_event k) (begins_zone k) one.0)) one.0

  zone-there : (k : Placed) → IsIn k ls → ((is_in_part ls k part && begins_part k) && begins_zone k) ≡ true →
      (begins_zone k && is_zone_for ls part k) ≡ true
  zone-there k i t =
      let one = two-of (is_in_part ls k part && begins_part k) (begins_zone k) t in
      let two = two-of (is_in_part ls k part) (begins_part k) one.0 in
      let r = root-there k i two.0 two.1 in
      both-true (begins_zone k) (is_zone_for ls part k) one.1
      (⊎_elim (λ same.
      never-both (begins_zone k) one.1 (event-no-zone k (ap is_event same ∙ (part-member ls part is r.event r.among).1))) (λ z.
      any-in (λ event. is_zone_of ls event k) part r.event r.among z) r.by)

  there-zone : (k : Placed) → IsIn k ls → (begins_zone k && is_zone_for ls part k) ≡ true →
      ((is_in_part ls k part && begins_part k) && begins_zone k) ≡ true
  there-zone k i t =
      let one = two-of (begins_zone k) (is_zone_for ls part k) t in
      let f = in-any (λ event. is_zone_of ls event k) part one.1 in
      let root = any-in (λ event. root_by ls k event) part f.one f.among (right-or (k.number == f.one.number) (is_zone_of ls f.one k) f.holds) in
      both-true (is_in_part ls k part && begins_part k) (begins_zone k)
      (both-true (is_in_part ls k part) (begins_part k) (there-root k i root) (right-or (is_event k) (begins_zone k) one.0)) one.0

  pub events_there : filter is_event (filter begins_part (lines_of ls part)) ≡ filter (is_event_of part) (all_events ls)
  events_there =
      ap (filter is_event) (filter-twice begins_part (λ k. is_in_part ls k part) ls)
      ∙ filter-twice is_event (λ k. is_in_part ls k part && begins_part k) ls
      ∙ filter-same (λ k. (is_in_part ls k part && begins_part k) && is_event k) (λ k. is_event k && is_event_of part k) ls
      (λ k i. same-truth ls h _ _ (event-there k i) (there-event k i))
      ∙ sym (filter-twice (is_event_of part) is_event ls)

  pub zones_there : filter begins_zone (filter begins_part (lines_of ls part)) ≡ filter (is_zone_for ls part) (filter begins_zone ls)
  zones_there =
      ap (filter begins_zone) (filter-twice begins_part (λ k. is_in_part ls k part) ls)
      ∙ filter-twice begins_zone (λ k. is_in_part ls k part && begins_part k) ls
      ∙ filter-same (λ k. (is_in_part ls k part && begins_part k) && begins_zone k) (λ k. begins_zone k && is_zone_for ls part k) ls
      (λ k i. same-truth ls h _ _ (zone-there k i) (there-zone k i))
      ∙ sym (filter-twice (is_zone_for ls part) begins_zone ls)

  -- what an item of the part is read to
  item-in : (k : Placed) → IsIn k (filter begins_part (lines_of ls part)) → IsIn k ls × (begins_part k ≡ true)
  item-in k i =
      let one = in-filter begins_part (lines_of ls part) k i in ((in-filter (λ l. is_in_part ls l part) ls k one.0).0, one.1)

  -- WHAT IS GATHERED OF A PART without a fault: of its events, and of the time zones that they name.
  module _ (nested : is_well_nested ls ≡ true) (none : first_fault (lines_of ls part) ≡ None) where
    abbrev gathered : ParsedFileSeen
    gathered = parsed_from (lines_of ls part) nothing_parsed [] (lines_of ls part)

    abbrev items : List Placed
    items = filter begins_part (lines_of ls part)

    pub part_events : gathered.events ≡ flat_map (λ e. (parsed_in (item_read ls e)).events) (filter (is_event_of part) (all_events ls))
    part_events =
        ap (λ (x : ParsedFileSeen). x.events) (part_parsed ls h nested part is none)
        ∙ parsed_events ls items
        ∙ some-of (λ e. (parsed_in (item_read ls e)).events) is_event items (λ k i e. let two = item-in k i in (zone-nothing ls h k two.0 two.1 e).0)
        ∙ ap (flat_map (λ e. (parsed_in (item_read ls e)).events)) events_there

    pub part_checks : gathered.checks ≡ flat_map (λ e. (parsed_in (item_read ls e)).checks) (filter (is_event_of part) (all_events ls))
    part_checks =
        ap (λ (x : ParsedFileSeen). x.checks) (part_parsed ls h nested part is none)
        ∙ parsed_checks ls items
        ∙ some-of (λ e. (parsed_in (item_read ls e)).checks) is_event items (λ k i e. let two = item-in k i in (zone-nothing ls h k two.0 two.1 e).1)
        ∙ ap (flat_map (λ e. (parsed_in (item_read ls e)).checks)) events_there

    pub part_zones : gathered.zones ≡ flat_map (λ z. (parsed_in (item_read ls z)).zones) (filter (is_zone_for ls part) (filter begins_zone ls))
    part_zones =
        ap (λ (x : ParsedFileSeen). x.zones) (part_parsed ls h nested part is none)
        ∙ parsed_zones ls items
        ∙ some-of (λ z. (parsed_in (item_read ls z)).zones) begins_zone items (λ k i e. let two = item-in k i in event-nothing ls h k two.0 two.1 e)
        ∙ ap (flat_map (λ z. (parsed_in (item_read ls z)).zones)) zones_there

    -- WHAT THE PART SAYS with zone files is settled of that.
    pub part_says : unresolved_by (known_in gathered.zones) gathered.events gathered.checks
        ≡ record { wants = each_once (unknown_names (lines_of ls part)); says = λ files. lines_say files (lines_of ls part) }
    part_says = lines_settle (lines_of ls part) (part_in_place ls h nested part is) none
