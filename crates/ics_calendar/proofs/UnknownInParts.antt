-- A name that the time zones of a part do not define is defined in no larger choice of lines: a time zone that an event names is whole in its part.
use Rattle.std.proofs.Common.{◌≡◌, inl, ℕ, ◌<◌, Bool, true, false, ◌&&◌, ◌||◌, not, ◌==◌, List, [], ◌∷◌, map, filter, refl, sym, ap, ◌∙◌}
use Rattle.std.proofs.Common.{◌+◌, Option, Some, None, arith, cond, subst, ⊎_elim}
use Rattle.std.specs.Prelude.{codes, is_some, option_map, unwrap_or}
use Rattle.std.specs.List.{Contains, list_any, position_from}
use Rattle.std.specs.Option.{option_and_then}
use Rattle.std.specs.Str.{bytes_eq}
use Rattle.std.proofs.lemmas.Bool.{and_from, eq-eqb, eqb-true}
use Rattle.std.proofs.lemmas.Iterator.Adapters.{position_from-zero}
use Rattle.ics_text.specs.ContentLines.{Parts}
use Rattle.ics_values.specs.Plain.{text_of}
use Rattle.ics_values.specs.Zoned.{is_zoned}
use Rattle.ics_components.specs.Components.{is_calendar_context, is_event_context}
use Rattle.ics_components.specs.DateValues.{At, has_zoned, rdate_in}
use Rattle.ics_components.specs.declared.component.Context.{Context}
use Rattle.ics_components.specs.declared.component.Context.TheVariants as context
use Rattle.ics_components.specs.declared.deferred_check.ZoneName.{ZoneName}
use Rattle.ics_components.specs.declared.name.Name.{Name}
use Rattle.ics_components.specs.declared.name.Name.TheVariants as name
use Rattle.ics_components.specs.EventLines.{is_event, is_well_nested, named_by, named_on, texts_in, zones_named}
use Rattle.ics_components.specs.Faults.{dates_said, event_reading, first_text, reading_in}
use Rattle.ics_components.specs.FirstFault.{no_open}
use Rattle.ics_components.specs.Lines.{event_zone}
use Rattle.ics_components.specs.Observances.{begins_zone, name_by, zone_names}
use Rattle.ics_components.specs.Parted.{AreInPlace, begins_part}
use Rattle.ics_components.specs.PlacedLines.{Open, Placed, all_named, calendar_of, component, context_of, first_named, first_of, in_calendar}
use Rattle.ics_components.specs.PlacedLines.{in_event, innermost, is_begin, is_named, lines_in, name_on, named, params_of, value, value_of}
use Rattle.ics_components.specs.SecondRound.{time_zone, zone_named}
use Rattle.ics_components.specs.Values.{stamp_in, stamp_read, time_of, zone_name}
use Rattle.ics_components.proofs.ItemFaults.{IsIn}
use Rattle.ics_components.proofs.NameLemmas.{context-tests}
use Rattle.ics_components.proofs.Opened.{AllOpened, IsFound, above, any-in, in-any, opened}
use Rattle.ics_components.proofs.PartsLemmas.{event-no-zone}
use Rattle.ics_components.proofs.RestFaults.{filter-in, in-filter, left-or, never-both, right-or, two-of}
use Rattle.ics_calendar.specs.DeferredChecks.{is_same}
use Rattle.ics_calendar.specs.LaterFaults.{has_zone, is_in_unknown_zone, is_in_zone, tzid_on}
use Rattle.ics_calendar.specs.Parts.{Part, frames, is_in_part, is_of, is_zone_of, lines_of, needs}
use Rattle.ics_calendar.specs.Wanted.{unknown_names}
use Rattle.ics_calendar.specs.Zones.{zones_on}
use Rattle.ics_calendar.proofs.EventNames.{any-said}
use Rattle.ics_calendar.proofs.NamedZones.{property-named}
use Rattle.ics_calendar.proofs.OneUid.{contains-in, in-contains, kept-inside, was-kept, was-mapped}
use Rattle.ics_calendar.proofs.PartFirst.{IsPart, is_zone_for, part_in_place, root-there, zones_there}
use Rattle.ics_calendar.proofs.PartLaws.{kept, mapped}

pub any-map : {X : Type 0} (p : X → Bool) (f : Placed → X) (ks : List Placed) → list_any p (map f ks) ≡ list_any (λ k. p (f k)) ks
any-map p f [] = refl
any-map p f (k ∷ ks) = ap (λ t. p (f k) || t) (any-map p f ks)

first-in : (ks : List Placed) (k : Placed) → first_of ks ≡ Some k → IsIn k ks
first-in [] k e = cc
first-in (m ∷ ms) k e = let same : m ≡ k = cc in inl same

pub in-first : (ks : List Placed) (k : Placed) → IsIn k ks → (m : Placed) × (first_of ks ≡ Some m)
in-first [] k i = absurd i
in-first (m ∷ ms) k i = (m, refl)

-- what stands directly in a component stands within it
pub inner-within : (path : List Open) (n : ℕ) → 0 < n → (innermost path == n) ≡ true → list_any (λ c. c.begun == n) path ≡ true
inner-within [] n some e = let zero = eqb-true 0 n e in absurd (omega (arith, some, zero))
inner-within (c ∷ cs) n some e = left-or (c.begun == n) (list_any (λ c. c.begun == n) cs) e

-- A LINE with a stamp in a time zone names that.
event-context : (q : Context) → is_event_context q ≡ true → q ≡ context.Event
event-context q e = grind arith

zoned-time : (k : ℕ) (params value : List ℕ) → list_any has_zoned (map (rdate_in (zone_name params)) (At (stamp_read params value) ∷ [])) ≡ true →
    time_zone k (time_of params value) ≡ Some (zone_named k (zone_name params))
zoned-time k params value e = by_test (is_zoned (stamp_in (stamp_read params value))) e
  where
    by_test : (t : Bool) → (t || false) ≡ true →
        cond t (Some (zone_named k (cond t (zone_name params) None))) None ≡ Some (zone_named k (zone_name params))
    by_test true e = refl
    by_test false e = cc

zoned-name : (n : Name) (c : Parts) → list_any has_zoned (map (rdate_in (zone_name c.params)) (dates_said (event_reading n c.params c.value))) ≡ true →
    event_zone 0 n c ≡ Some (zone_named 0 (zone_name c.params))
zoned-name name.Dtstart c e = zoned-time 0 c.params c.value e
zoned-name name.Dtend c e = zoned-time 0 c.params c.value e
zoned-name name.RecurrenceId c e = zoned-time 0 c.params c.value e
zoned-name name.Rdate c e = ap (λ t. cond t (Some (zone_named 0 (zone_name c.params))) None) e
zoned-name name.Exdate c e = ap (λ t. cond t (Some (zone_named 0 (zone_name c.params))) None) e
zoned-name _ c e = let no : false ≡ true = e in cc

abbrev zoned_in : Context → Option Parts → Bool
zoned_in q o = list_any has_zoned (map (rdate_in (zone_name (params_of o))) (dates_said (reading_in q (name_on o) (params_of o) (value_of o))))

zoned-content : (o : Option Parts) → zoned_in context.Event o ≡ true → option_and_then named_by o ≡ Some (unwrap_or (zone_name (params_of o)) [])
unfolding name_on
zoned-content None e = let no : false ≡ true = e in cc
zoned-content (Some c) e = (property-named 0 (named c) c (zone_named 0 (zone_name c.params)) (zoned-name (named c) c e)).1

pub zone-on : (l : Placed) → is_in_zone l ≡ true → named_on l ≡ Some (tzid_on l)
zone-on l e =
    let two = two-of (in_event l) (zoned_in (context_of l.path) l.content) e in
    zoned-content l.content (ap (λ q. zoned_in q l.content) (sym (event-context (context_of l.path) two.0)) ∙ two.1)

-- THE EVENT in which a line stands directly.
pub record IsBegun (ls : List Placed) (path : List Open) : Type 0 where
  pub event : Placed
  pub among : IsIn event ls
  pub is : is_event event ≡ true
  pub inner : innermost path ≡ event.number
  pub calendar : calendar_of path ≡ calendar_of event.path

around : (c : Open) (cs : List Open) → is_calendar_context (context_of cs) ≡ true → calendar_of (c ∷ cs) ≡ calendar_of cs
around c [] e = let no : false ≡ true = e in cc
around c (d ∷ ds) e = refl

pub event-begun : (ls : List Placed) → AreInPlace 0 [] ls → (l : Placed) → IsIn l ls → in_event l ≡ true → IsBegun ls l.path
event-begun ls h l i e = by_path l.path (opened ls h l i) e
  where
    by_path : (path : List Open) → AllOpened ls path → is_event_context (context_of path) ≡ true → IsBegun ls path
    by_path [] all e = let no : false ≡ true = e in cc
    by_path (c ∷ cs) all e =
        let b = all.0 in
        let two = two-of (is_calendar_context (context_of cs)) (bytes_eq c.name (codes "VEVENT")) (sym ((context-tests (context_of cs) c.name).0) ∙ e) in
        record {
          event = b.begin;
          among = b.among;
          is =
              and_from (in_calendar b.begin || no_open b.begin.path) (is_begin b.begin && bytes_eq (component b.begin) (codes "VEVENT"))
              (left-or (in_calendar b.begin) (no_open b.begin.path) (ap (λ p. is_calendar_context (context_of p)) b.path ∙ two.0))
              (and_from (is_begin b.begin) (bytes_eq (component b.begin) (codes "VEVENT")) b.begins (ap (λ w. bytes_eq w (codes "VEVENT")) b.called ∙ two.1));
          inner = sym b.number;
          calendar = around c cs two.0 ∙ ap calendar_of (sym b.path);
        }

-- A TIME ZONE that has a TZID.
pub record IsTitled (ls : List Placed) (z : Placed) : Type 0 where
  pub line : Placed
  pub first : first_named name.Tzid (lines_in z.number ls) ≡ Some line

-- MORE LINES than those of a part, in which each time zone has a TZID.
pub record IsWider (ls : List Placed) (part : Part) (qs : List Placed) : Type 0 where
  pub within : (k : Placed) → IsIn k qs → IsIn k ls
  pub more : (k : Placed) → IsIn k (lines_of ls part) → IsIn k qs
  pub titled : (z : Placed) → IsIn z qs → begins_zone z ≡ true → IsTitled qs z
  pub whole : (n : ℕ) → ((k : Placed) → (innermost k.path == n) ≡ true → is_in_part ls k part ≡ true) → lines_in n qs ≡ lines_in n ls

-- whether a zone has a name
position-any : {X : Type 0} (p : X → Bool) (k : ℕ) (xs : List X) → is_some (position_from p k xs) ≡ list_any p xs
position-any p k [] = refl
position-any p k (x ∷ xs) = by_test (p x) (position-any p (k + 1) xs)
  where
    by_test : (t : Bool) → is_some (position_from p (k + 1) xs) ≡ list_any p xs →
        is_some (cond t (Some k) (position_from p (k + 1) xs)) ≡ (t || list_any p xs)
    by_test true again = refl
    by_test false again = again

index-any : (ks : List Placed) (used : ZoneName) → is_some ((zones_on ks).index used) ≡ list_any (λ z. is_same used (name_by ks z)) (filter begins_zone ks)
index-any ks used =
    ap is_some (position_from-zero (is_same used) (zone_names ks)) ∙ position-any (is_same used) 0 (zone_names ks)
    ∙ any-map (is_same used) (name_by ks) (filter begins_zone ks)

-- SOME EVENTS of lines in their places.
pub record IsChosen (ls : List Placed) (part : Part) : Type 0 where
  pub in_place : AreInPlace 0 [] ls
  pub nested : is_well_nested ls ≡ true
  pub is : IsPart ls part

module _ {ls : List Placed} {part : Part} (c : IsChosen ls part) where
  abbrev own : List Placed
  own = lines_of ls part

  of-own : (k : Placed) → IsIn k own → IsIn k ls × (is_in_part ls k part ≡ true)
  of-own k i = in-filter (λ l. is_in_part ls l part) ls k i

  event-in : (b : Placed) → IsIn b own → is_event b ≡ true → IsIn b part
  event-in b i t =
      let two = of-own b i in
      let r = root-there ls c.in_place part c.is b two.0 two.1 (left-or (is_event b) (begins_zone b) t) in
      ⊎_elim (λ (same : b ≡ r.event). subst (λ x. IsIn x part) (sym same) r.among)
      (λ z. never-both (begins_zone b) (two-of (begins_zone b) _ z).0 (event-no-zone b t)) r.by

  -- A TIME ZONE THAT A LINE OF THE PART IS IN is whole in the part.
  zone-whole : (l z : Placed) → IsIn l own → IsIn z ls → (is_in_zone l ≡ true) × (begins_zone z ≡ true) × (calendar_of z.path ≡ calendar_of l.path)
      × (list_any (bytes_eq (tzid_on l)) (texts_in name.Tzid ls z) ≡ true) → (k : Placed) → is_of z k ≡ true → is_in_part ls k part ≡ true
  zone-whole l z i j are k of =
      let b = event-begun own (part_in_place ls c.in_place c.nested part c.is) l i (two-of (in_event l) _ are.0).0 in
      let e : Placed = b.event in
      let there : IsIn l (lines_in e.number ls) =
      filter-in (λ m. innermost m.path == e.number) ls l (of-own l i).0 (eq-eqb (innermost l.path) e.number b.inner) in
      let names : list_any (λ zone. list_any (bytes_eq zone) (texts_in name.Tzid ls z)) (zones_named ls e) ≡ true =
      any-said named_on (λ zone. list_any (bytes_eq zone) (texts_in name.Tzid ls z)) (lines_in e.number ls) l (tzid_on l) there (zone-on l are.0) are.3 in
      let zone : is_zone_of ls e z ≡ true =
      and_from (begins_zone z) _ are.1
      (and_from (calendar_of z.path == calendar_of e.path) _ (eq-eqb (calendar_of z.path) (calendar_of e.path) (are.2 ∙ b.calendar)) names) in
      any-in (λ event. needs ls event k) part e (event-in e b.among b.is)
      (right-or (is_of e k) _
      (right-or (frames e k) _ (any-in (λ begin. is_zone_of ls e begin && is_of begin k) ls z j (and_from (is_zone_of ls e z) (is_of z k) zone of))))

  module _ {qs : List Placed} (w : IsWider ls part qs) where
    -- the text of its TZID there is one of all
    title-any : (l z : Placed) → (t : IsTitled qs z) → bytes_eq (tzid_on l) (text_of (value t.line)) ≡ true →
        list_any (bytes_eq (tzid_on l)) (texts_in name.Tzid ls z) ≡ true
    title-any l z t e =
        let one = in-filter (is_named name.Tzid) (lines_in z.number qs) t.line (first-in (all_named name.Tzid (lines_in z.number qs)) t.line t.first) in
        let two = in-filter (λ m. innermost m.path == z.number) qs t.line one.0 in
        let among = filter-in (λ m. innermost m.path == z.number) ls t.line (w.within t.line two.0) two.1 in
        any-map (bytes_eq (tzid_on l)) (λ line. text_of (value line)) (all_named name.Tzid (lines_in z.number ls))
        ∙ any-in (λ line. bytes_eq (tzid_on l) (text_of (value line))) (all_named name.Tzid (lines_in z.number ls)) t.line
        (filter-in (is_named name.Tzid) (lines_in z.number ls) t.line among one.1) e

    -- a time zone that defines the name among more lines does so in the part
    zone-known : (l : Placed) → IsIn l own → is_in_zone l ≡ true → has_zone (zones_on qs) l ≡ true → has_zone (zones_on own) l ≡ true
    zone-known l i zoned e =
        index-any own used
        ∙ any-in (λ k. is_same used (name_by own k)) (filter begins_zone own) z (filter-in begins_zone own z z_own both.1)
        (ap (λ ms. is_same used (zone_named (calendar_of z.path) (first_text name.Tzid ms))) same ∙ f.holds)
      where
        used : ZoneName
        used = zone_named (calendar_of l.path) (zone_name (params_of l.content))

        f : IsFound (λ z. is_same used (name_by qs z)) (filter begins_zone qs)
        f = in-any (λ z. is_same used (name_by qs z)) (filter begins_zone qs) (sym (index-any qs used) ∙ e)

        z : Placed
        z = f.one

        both : IsIn z qs × (begins_zone z ≡ true)
        both = in-filter begins_zone qs z f.among

        z_ls : IsIn z ls
        z_ls = w.within z both.0

        title : IsTitled qs z
        title = w.titled z both.0 both.1

        named_so : ((calendar_of l.path == calendar_of z.path) ≡ true)
            × (bytes_eq (tzid_on l) (unwrap_or (first_text name.Tzid (lines_in z.number qs)) []) ≡ true)
        named_so = two-of (calendar_of l.path == calendar_of z.path) (bytes_eq (tzid_on l) (unwrap_or (first_text name.Tzid (lines_in z.number qs)) [])) f.holds

        called : list_any (bytes_eq (tzid_on l)) (texts_in name.Tzid ls z) ≡ true
        called =
            title-any l z title
            (ap (λ o. bytes_eq (tzid_on l) (unwrap_or (option_map (λ line. text_of (value line)) o) [])) (sym title.first) ∙ named_so.1)

        take : (k : Placed) → is_of z k ≡ true → is_in_part ls k part ≡ true
        take = zone-whole l z i z_ls (zoned, both.1, sym (eqb-true (calendar_of l.path) (calendar_of z.path) named_so.0), called)

        z_own : IsIn z own
        z_own = filter-in (λ m. is_in_part ls m part) ls z z_ls (take z (left-or (z.number == z.number) _ (eq-eqb z.number z.number refl)))

        inside : (k : Placed) → (innermost k.path == z.number) ≡ true → is_in_part ls k part ≡ true
        inside k e = take k (right-or (k.number == z.number) _ (inner-within k.path z.number (above ls 0 [] c.in_place z z_ls).1 e))

        same : lines_in z.number own ≡ lines_in z.number qs
        same = kept-inside (λ m. is_in_part ls m part) (λ m. innermost m.path == z.number) inside ls ∙ sym (w.whole z.number inside)

    -- WHAT IS UNKNOWN IN A PART is unknown among more lines.
    pub still-unknown : (n : List ℕ) → Contains (unknown_names own) n → Contains (unknown_names qs) n
    still-unknown n k =
        subst (λ m. Contains (unknown_names qs) m) was.2
        (mapped tzid_on (filter unknown qs) x (kept unknown qs x lacks (in-contains qs x (w.more x i))))
      where
        unknown : Placed → Bool
        unknown = is_in_unknown_zone (zones_on qs)

        was : (x : Placed) × Contains (filter (is_in_unknown_zone (zones_on own)) own) x × (tzid_on x ≡ n)
        was = was-mapped tzid_on (filter (is_in_unknown_zone (zones_on own)) own) n k

        x : Placed
        x = was.0

        before : (is_in_unknown_zone (zones_on own) x ≡ true) × Contains own x
        before = was-kept (is_in_unknown_zone (zones_on own)) own x was.1

        i : IsIn x own
        i = contains-in own x before.1

        two : (is_in_zone x ≡ true) × (not (has_zone (zones_on own) x) ≡ true)
        two = two-of (is_in_zone x) (not (has_zone (zones_on own) x)) before.0

        lacks : unknown x ≡ true
        lacks = and_from (is_in_zone x) (not (has_zone (zones_on qs) x)) two.0 (by_test (has_zone (zones_on qs) x) refl)
          where
            by_test : (t : Bool) → has_zone (zones_on qs) x ≡ t → not t ≡ true
            by_test false e = refl
            by_test true e = let known = zone-known x i two.0 e in sym (ap not known) ∙ two.1

  -- ANOTHER PART with its events has more lines.
  pub part-wider : (other : Part) → IsPart ls other → ((e : Placed) → IsIn e part → IsIn e other) → IsWider ls part (lines_of ls other)
  part-wider other are sub = record {
    within = λ k i. (in-filter (λ l. is_in_part ls l other) ls k i).0;
    more = λ k i. let two = of-own k i in filter-in (λ l. is_in_part ls l other) ls k two.0 (sub-part k two.1);
    titled = titled;
    whole = λ n each. kept-inside (λ m. is_in_part ls m other) (λ m. innermost m.path == n) (λ k e. sub-part k (each k e)) ls;
  }
    where
      sub-part : (k : Placed) → is_in_part ls k part ≡ true → is_in_part ls k other ≡ true
      sub-part k t = let f = in-any (λ event. needs ls event k) part t in any-in (λ event. needs ls event k) other f.one (sub f.one f.among) f.holds

      no-text : (zones : List (List ℕ)) → list_any (λ zone. list_any (bytes_eq zone) []) zones ≡ true → ⊥
      no-text [] e = cc
      no-text (zone ∷ zones) e = no-text zones e

      title-of : (zones : List (List ℕ)) (ks : List Placed) → list_any (λ zone. list_any (bytes_eq zone) (map (λ line. text_of (value line)) ks)) zones ≡ true →
          (m : Placed) × (first_of ks ≡ Some m)
      title-of zones [] e = absurd (no-text zones e)
      title-of zones (k ∷ ks) e = (k, refl)

      titled : (z : Placed) → IsIn z (lines_of ls other) → begins_zone z ≡ true → IsTitled (lines_of ls other) z
      titled z i t =
          let there = filter-in begins_zone (filter begins_part (lines_of ls other)) z
          (filter-in begins_part (lines_of ls other) z i (right-or (is_event z) (begins_zone z) t)) t in
          let mine = in-filter (is_zone_for ls other) (filter begins_zone ls) z (subst (λ ks. IsIn z ks) (zones_there ls c.in_place other are) there) in
          let z_ls = (in-filter begins_zone ls z mine.0).0 in
          let f = in-any (λ event. is_zone_of ls event z) other mine.1 in
          let one = two-of (begins_zone z) _ f.holds in
          let two = two-of (calendar_of z.path == calendar_of f.one.path) _ one.1 in
          let title = title-of (zones_named ls f.one) (all_named name.Tzid (lines_in z.number ls)) two.1 in
          let inside : (k : Placed) → (innermost k.path == z.number) ≡ true → is_in_part ls k other ≡ true =
          λ k e.
          any-in (λ event. needs ls event k) other f.one f.among
          (right-or (is_of f.one k) _
          (right-or (frames f.one k) _
          (any-in (λ begin. is_zone_of ls f.one begin && is_of begin k) ls z z_ls
          (and_from (is_zone_of ls f.one z) (is_of z k) f.holds
          (right-or (k.number == z.number) _ (inner-within k.path z.number (above ls 0 [] c.in_place z z_ls).1 e)))))) in
          let same : lines_in z.number (lines_of ls other) ≡ lines_in z.number ls =
          kept-inside (λ m. is_in_part ls m other) (λ m. innermost m.path == z.number) inside ls in
          record { line = title.0; first = ap (first_named name.Tzid) same ∙ title.1 }
