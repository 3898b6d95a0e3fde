-- What one pass over the lines of a file notes and gathers of each event and each time zone, line by line.
use Rattle.std.proofs.Common.{◌≡◌, ℕ, ◌<◌, ◌≤◌, Bool, true, false, ◌&&◌, ◌||◌, not, ◌==◌, List, [], ◌∷◌, ◌++◌, refl, sym, ap, ◌∙◌, arith, cond}
use Rattle.std.proofs.Common.{Option, Some, None, map, filter, append_assoc, drop}
use Rattle.std.specs.Prelude.{codes, filter_map}
use Rattle.std.specs.Str.{bytes_eq}
use Rattle.std.proofs.lemmas.Slice.Eq.{bytes_eq-Decides}
use Rattle.std.specs.List.{flat_map, list_any}
use Rattle.std.specs.Option.{option_or, option_to_list}
use Rattle.std.proofs.lemmas.Bool.{eq-eqb, ne_eqb}
use Rattle.std.proofs.lemmas.List.{append-nil}
use Rattle.ics_text.specs.Bytes.{is_empty}
use Rattle.ics_values.specs.Plain.{text_of}
use Rattle.ics_components.specs.declared.name.Name.{Name}
use Rattle.ics_components.specs.declared.name.Name.TheVariants as name
use Rattle.ics_components.specs.declared.fault.Fault.{Fault}
use Rattle.ics_components.specs.EventLines.{all_events, is_event, named_on, texts_in}
use Rattle.ics_components.specs.EventLines.{uids_of, zones_named}
use Rattle.ics_components.specs.FirstFault.{no_open}
use Rattle.ics_components.specs.Observances.{begins_zone}
use Rattle.ics_components.specs.PartFaults.{is_within}
use Rattle.ics_components.specs.ParsedFiles.{nothing_parsed}
use Rattle.ics_components.specs.Names.{same_name}
use Rattle.ics_components.specs.PlacedLines.{Placed, Open, component, in_calendar, innermost, is_begin, is_end, is_named, lines_in, name_on, path_behind, value}
use Rattle.ics_components.specs.Parted.{AreInPlace, Reads, frames_around, PartedComponentSeen, PartedFileSeen, begins_part, component_seen, fault_there}
use Rattle.ics_components.specs.Parted.{first_there, is_line_of, is_outside, is_part, part_in, read_behind, version_faults}
use Rattle.ics_components.specs.Inner.PartsPass.{NotesSeen, PartSeen, RoundSeen, and_outside, here, is_doubt, noted, noted_directly}
use Rattle.ics_components.specs.Inner.PartsPass.{notes_begun, part_closed}
use Rattle.ics_components.specs.Inner.PartsPass.{texts_on, with_line}
use Rattle.ics_components.proofs.Order.{Absent, Falls, below, absent-behind}
use Rattle.ics_components.proofs.PartPaths.{absent-any, absent-inner, begins-by, closed-inner, closed-none}

-- WHAT IS NOTED of a component by the lines that are left.
abbrev notes_after : NotesSeen → List Placed → NotesSeen
notes_after notes [] = notes
notes_after notes (l ∷ ls) = notes_after (noted_directly l notes) ls

abbrev at : ℕ → Placed
at b = here b None []

abbrev notes_with : NotesSeen → List Placed → NotesSeen
notes_with notes ls = record notes {
  uids = notes.uids ++ uids_of ls (at notes.begun);
  names = notes.names ++ texts_in name.Tzid ls (at notes.begun);
  zones = notes.zones ++ zones_named ls (at notes.begun);
  is_doubtful = notes.is_doubtful || list_any is_doubt (lines_in notes.begun ls);
}

one-text : (p : List ℕ → Bool) (n : Name) (l : Placed) (ls : List Placed) →
    filter p (map (λ line. text_of (value line)) (filter (is_named n) (l ∷ ls)))
    ≡ filter p (texts_on n l) ++ filter p (map (λ line. text_of (value line)) (filter (is_named n) ls))
one-text p n l ls = grind arith

one-name : (n : Name) (l : Placed) (ls : List Placed) →
    map (λ line. text_of (value line)) (filter (is_named n) (l ∷ ls)) ≡ texts_on n l ++ map (λ line. text_of (value line)) (filter (is_named n) ls)
one-name n l ls = grind arith

one-zone : (l : Placed) (ls : List Placed) → filter_map named_on (l ∷ ls) ≡ option_to_list (named_on l) ++ filter_map named_on ls
one-zone l ls = grind arith

or-more : (a b c : Bool) → ((a || b) || c) ≡ (a || (b || c))
or-more a b c = grind arith

or-no : (t : Bool) → (t || false) ≡ t
or-no t = grind arith

notes-are : (ls : List Placed) (notes : NotesSeen) → notes_after notes ls ≡ notes_with notes ls
notes-are [] notes = simp (append-nil, or-no)
notes-are (l ∷ ls) notes = notes-are ls (noted_directly l notes) ∙ by_place (innermost l.path == notes.begun) refl
  where
    inner : List Placed
    inner = lines_in notes.begun ls

    by_place : (t : Bool) → (innermost l.path == notes.begun) ≡ t →
        notes_with (cond t (noted l notes) notes) ls
        ≡ record notes {
          uids = notes.uids ++ filter (λ uid. not (is_empty uid)) (map (λ line. text_of (value line)) (filter (is_named name.Uid) (cond t (l ∷ inner) inner)));
          names = notes.names ++ map (λ line. text_of (value line)) (filter (is_named name.Tzid) (cond t (l ∷ inner) inner));
          zones = notes.zones ++ filter_map named_on (cond t (l ∷ inner) inner);
          is_doubtful = notes.is_doubtful || list_any is_doubt (cond t (l ∷ inner) inner);
        }
    by_place true e =
        simp (append_assoc, one-text (λ uid. not (is_empty uid)) name.Uid l inner, one-name name.Tzid l inner, one-zone l inner, or-more)
    by_place false e = refl

-- A COMPONENT that is open, with the lines that are left.
abbrev pub part_after : PartSeen → List Placed → PartedComponentSeen
part_after part ls =
    part_closed (record { notes = notes_after part.notes ls; read = read_behind part.read (filter (is_within part.notes.begun) ls) })

-- none of them stands in it
abbrev pub AreElsewhere : ℕ → List Placed → Type 0
AreElsewhere b [] = Unit {0}
AreElsewhere b (l ∷ ls) = (is_within b l ≡ false) × ((innermost l.path == b) ≡ false) × AreElsewhere b ls

pub elsewhere : (ls : List Placed) (b n : ℕ) (path : List Open) → 0 < b → b < n → Absent b path → AreInPlace n path ls → AreElsewhere b ls
elsewhere [] b n path some less gone h = tt
elsewhere (l ∷ ls) b n path some less gone h =
    let here : Absent b l.path = rw (h.0) gone in (
      absent-any b l.path here,
      absent-inner b l.path some here,
      elsewhere ls b l.number (path_behind l) some (omega (arith, less, h.1)) (absent-behind b l (omega (arith, less, h.1)) here) h.4,
    )

no-notes : (ls : List Placed) (notes : NotesSeen) → AreElsewhere notes.begun ls → notes_after notes ls ≡ notes
no-notes [] notes h = refl
no-notes (l ∷ ls) notes h = rw (h.1) (no-notes ls notes h.2)

pub no-lines : (ls : List Placed) (b : ℕ) → AreElsewhere b ls → filter (is_within b) ls ≡ []
no-lines [] b h = refl
no-lines (l ∷ ls) b h = rw (h.0) (no-lines ls b h.2)

pub ended-part : (ls : List Placed) (part : PartSeen) → AreElsewhere part.notes.begun ls → part_after part ls ≡ part_closed part
ended-part ls part h = rw (no-notes ls part.notes h, no-lines ls part.notes.begun h) refl

-- COMPONENTS BEHIND A LINE.
abbrev pub AreBehind : ℕ → List Placed → Type 0
AreBehind n [] = Unit {0}
AreBehind n (e ∷ es) = (n < e.number) × AreBehind n es

pub behind-all : (q : Placed → Bool) → ((l : Placed) → q l ≡ true → is_begin l ≡ true) → (ls : List Placed) (m n : ℕ) (path : List Open) → m ≤ n →
    AreInPlace n path ls → AreBehind m (filter q ls)
behind-all q begins [] m n path le h = tt
behind-all q begins (l ∷ ls) m n path le h =
    by_test (q l) refl (behind-all q begins ls m l.number (path_behind l) (omega (arith, le, h.1)) h.4)
  where
    by_test : (t : Bool) → q l ≡ t → AreBehind m (filter q ls) → AreBehind m (cond t (l ∷ filter q ls) (filter q ls))
    by_test true e later = (omega (arith, le, h.2 (begins l e)), later)
    by_test false e later = later

pub apart : (l e : Placed) (ls : List Placed) → Falls l.path → innermost l.path < l.number → l.number < e.number →
    component_seen (l ∷ ls) e ≡ component_seen ls e
apart l e ls falls inner less =
    let gone : Absent e.number l.path = below e.number l.path falls (omega (arith, inner, less)) in
    rw (
      ne_eqb l.number e.number (λ same. omega (arith, same, less)),
      absent-any e.number l.path gone,
      absent-inner e.number l.path (omega (arith, less)) gone,
    ) refl

pub all-apart : (l : Placed) (ls es : List Placed) → Falls l.path → innermost l.path < l.number → AreBehind l.number es →
    map (component_seen (l ∷ ls)) es ≡ map (component_seen ls) es
all-apart l ls [] falls inner h = refl
all-apart l ls (e ∷ es) falls inner h =
    let one = apart l e ls falls inner h.0 in
    let more = all-apart l ls es falls inner h.1 in
    λ i. one i ∷ more i

-- a component that begins on the first of some lines
own-lines : (ls : List Placed) (l : Placed) (n : ℕ) (path : List Open) → l.number < n → AreInPlace n path ls →
    filter (is_line_of l) ls ≡ filter (is_within l.number) ls
own-lines [] l n path less h = refl
own-lines (m ∷ ms) l n path less h =
    rw (ne_eqb m.number l.number (λ e. omega (arith, e, less, h.1)))
    (ap (λ (xs : List Placed). cond (is_within l.number m) (m ∷ xs) xs) (own-lines ms l m.number (path_behind m) (omega (arith, less, h.1)) h.4))

pub own-first : (ls : List Placed) (l : Placed) → innermost (path_behind l) ≡ l.number → AreInPlace l.number (path_behind l) ls →
    filter (is_line_of l) ls ≡ filter (is_within l.number) ls
own-first [] l inner h = refl
own-first (m ∷ ms) l inner h =
    let less : l.number < m.number = omega (arith, inner, h.3) in
    rw (ne_eqb m.number l.number (λ e. omega (arith, e, less)))
    (ap (λ (xs : List Placed). cond (is_within l.number m) (m ∷ xs) xs) (own-lines ms l m.number (path_behind m) less h.4))

abbrev pub fresh : Placed → PartSeen
fresh l = record { notes = notes_begun l.number (innermost l.path) (is_event l); read = Reads (frames_around l.path) nothing_parsed }

pub begun-part : (l : Placed) (ls : List Placed) → innermost l.path < l.number → innermost (path_behind l) ≡ l.number →
    AreInPlace l.number (path_behind l) ls → part_after (with_line l (fresh l)) ls ≡ component_seen (l ∷ ls) l
begun-part l ls inner mine h =
    rw (
      ne_eqb (innermost l.path) l.number (λ e. omega (arith, e, inner)),
      eq-eqb l.number l.number refl,
      own-first ls l mine h,
      notes-are ls (notes_begun l.number (innermost l.path) (is_event l)),
    ) refl

-- WHAT IS GATHERED of the lines that are left, behind the component that is open.
abbrev pub and_part : Option PartSeen → List Placed → PartedFileSeen → PartedFileSeen
and_part None ls had = had
and_part (Some part) ls had =
    cond part.notes.is_event (record had { events = had.events ++ part_after part ls ∷ [] })
    (record had { zones = had.zones ++ part_after part ls ∷ [] })

abbrev pub and_lines : PartedFileSeen → List Placed → PartedFileSeen
and_lines had ls = record {
  events = had.events ++ map (component_seen ls) (all_events ls);
  zones = had.zones ++ map (component_seen ls) (filter begins_zone ls);
  calendars = had.calendars ++ flat_map version_faults ls;
  outside = option_or had.outside (first_there (filter is_outside ls));
}

abbrev pub begun_of : Option PartSeen → Option ℕ
begun_of None = None
begun_of (Some part) = Some part.notes.begun

-- Where the round stands: the components that are open began before, and an event or a time zone among them is the one that is open.
pub record IsThere (round : RoundSeen) (n : ℕ) : Type 0 where
  pub falls : Falls round.path
  pub inner : innermost round.path ≤ n
  pub fits : part_in round.path ≡ begun_of round.part

-- a line on which a component begins ends none and is no VERSION
pub marks : (n : Name) → same_name n name.Begin ≡ true → (same_name n name.End ≡ false) × (same_name n name.Version ≡ false) × (same_name n name.Uid ≡ false)
marks name.Begin e = (refl, refl, refl)
marks _ e = cc

event-begins : (l : Placed) → is_event l ≡ true → is_begin l ≡ true
event-begins l e = grind (arith, e)

zone-begins : (l : Placed) → begins_zone l ≡ true → is_begin l ≡ true
zone-begins l e = grind (arith, e)

pub event-no-zone : (l : Placed) → is_event l ≡ true → begins_zone l ≡ false
event-no-zone l e = by_name (component l) (named-event (in_calendar l || no_open l.path) (is_begin l) (component l) e)
  where
    named-event : (a b : Bool) (name : List ℕ) → (a && (b && bytes_eq name (codes "VEVENT"))) ≡ true → bytes_eq name (codes "VEVENT") ≡ true
    named-event a b name e = grind (arith, e)

    by_name : (name : List ℕ) → bytes_eq name (codes "VEVENT") ≡ true → (in_calendar l && (is_begin l && bytes_eq name (codes "VTIMEZONE"))) ≡ false
    by_name name e = rw ((bytes_eq-Decides name (codes "VEVENT")).0 e) (no-test (in_calendar l) (is_begin l))
      where
        no-test : (a b : Bool) → (a && (b && false)) ≡ false
        no-test a b = grind arith

-- nothing is outside of an event or a time zone while it is open
or-none : (o p q : Option Fault) → option_or (option_or o p) q ≡ option_or o (option_or p q)
or-none o p q = grind arith

module _ (l : Placed) (ls : List Placed) (falls : Falls l.path) (inner : innermost l.path < l.number) (h : AreInPlace l.number (path_behind l) ls) where
  events-apart : map (component_seen (l ∷ ls)) (all_events ls) ≡ map (component_seen ls) (all_events ls)
  events-apart =
      all-apart l ls (all_events ls) falls inner
      (behind-all is_event event-begins ls l.number l.number (path_behind l) (omega arith) h)

  zones-apart : map (component_seen (l ∷ ls)) (filter begins_zone ls) ≡ map (component_seen ls) (filter begins_zone ls)
  zones-apart =
      all-apart l ls (filter begins_zone ls) falls inner
      (behind-all begins_zone zone-begins ls l.number l.number (path_behind l) (omega arith) h)

  -- a line of no event and no time zone
  pub other-line : (had : PartedFileSeen) → is_event l ≡ false → begins_zone l ≡ false → part_in l.path ≡ None →
      and_lines (and_outside l had) ls ≡ and_lines had (l ∷ ls)
  other-line had e z p =
      rw (
        e,
        z,
        p,
        events-apart,
        zones-apart,
        append_assoc had.calendars (version_faults l) (flat_map version_faults ls),
        or-none had.outside (fault_there l) (first_there (filter is_outside ls)),
      ) refl

  -- a line of the one that is open
  pub inner-line : (had : PartedFileSeen) (b : ℕ) → is_event l ≡ false → begins_zone l ≡ false → version_faults l ≡ [] → part_in l.path ≡ Some b →
      and_lines had ls ≡ and_lines had (l ∷ ls)
  inner-line had b e z v p = rw (e, z, v, p, events-apart, zones-apart) refl

  -- the BEGIN line of an event or of a time zone
  pub begin-line : (had : PartedFileSeen) (seen : PartedComponentSeen) → seen ≡ component_seen (l ∷ ls) l → begins_part l ≡ true → version_faults l ≡ [] →
      and_lines (cond (is_event l) (record had { events = had.events ++ seen ∷ [] }) (record had { zones = had.zones ++ seen ∷ [] })) ls
      ≡ and_lines had (l ∷ ls)
  begin-line had seen is begins v = by_test (is_event l) refl
    where
      by_test : (t : Bool) → is_event l ≡ t →
          and_lines (cond t (record had { events = had.events ++ seen ∷ [] }) (record had { zones = had.zones ++ seen ∷ [] })) ls ≡ and_lines had (l ∷ ls)
      by_test true e =
          rw (e, event-no-zone l e, v, events-apart, zones-apart, is) simp append_assoc
      by_test false e =
          let z : begins_zone l ≡ true = sym (ap (λ t. t || begins_zone l) e) ∙ begins in
          rw (e, z, v, events-apart, zones-apart, is) simp append_assoc

-- what is noted changes neither which component it is nor what it is
pub begun-kept : (l : Placed) (notes : NotesSeen) → (noted_directly l notes).begun ≡ notes.begun
begun-kept l notes = grind arith

pub event-kept : (l : Placed) (notes : NotesSeen) → (noted_directly l notes).is_event ≡ notes.is_event
event-kept l notes = grind arith

pub part-line : (l : Placed) (ls : List Placed) (part : PartSeen) (had : PartedFileSeen) → is_within part.notes.begun l ≡ true →
    and_part (Some (with_line l part)) ls had ≡ and_part (Some part) (l ∷ ls) had
part-line l ls part had e = rw (event-kept l part.notes, begun-kept l part.notes, e) refl

no-version : (a b c : Bool) (x : List (ℕ × Fault)) → b ≡ false → cond (a && (b && c)) x [] ≡ []
no-version a b c x e = grind (arith, e)

pub begin-no-version : (l : Placed) → is_begin l ≡ true → version_faults l ≡ []
begin-no-version l e = no-version _ (is_named name.Version l) _ _ ((marks (name_on l.content) e).1)

pub end-no-begin : (n : Name) → same_name n name.End ≡ true → same_name n name.Begin ≡ false
end-no-begin name.End e = refl
end-no-begin _ e = cc

pub first-of : (a b : Bool) → (a && b) ≡ true → (a ≡ true) × (b ≡ true)
first-of a b e = (grind (arith, e), grind (arith, e))

pub never : (t : Bool) → (t && false) ≡ false
never t = grind arith

pub neither : (a b : Bool) → (a || b) ≡ false → (a ≡ false) × (b ≡ false)
neither a b e = (grind (arith, e), grind (arith, e))

-- WHERE THE ROUND STANDS behind a line.
pub behind-none : (l : Placed) → begins_part l ≡ false → part_in l.path ≡ None → part_in (path_behind l) ≡ None
behind-none l e p = by_kind (is_begin l) (is_end l) refl
  where
    by_kind : (b d : Bool) → is_begin l ≡ b →
        part_in (cond b (record { name = component l; begun = l.number } ∷ l.path) (cond d (drop 1 l.path) l.path)) ≡ None
    by_kind true d is =
        let no : is_part l.path (component l) ≡ false = sym (ap (λ t. t && is_part l.path (component l)) is) ∙ sym (begins-by l) ∙ e in rw (p, no) refl
    by_kind false true is = closed-none l.path p
    by_kind false false is = p

pub behind-begun : (l : Placed) → is_begin l ≡ true → is_part l.path (component l) ≡ true → part_in l.path ≡ None → part_in (path_behind l) ≡ Some l.number
behind-begun l is part p = rw (is, p, part) refl

pub behind-inner : (l : Placed) (b : ℕ) → part_in l.path ≡ Some b → (is_end l && (innermost l.path == b)) ≡ false → part_in (path_behind l) ≡ Some b
behind-inner l b p e = by_kind (is_begin l) (is_end l) e
  where
    by_kind : (t d : Bool) → (d && (innermost l.path == b)) ≡ false →
        part_in (cond t (record { name = component l; begun = l.number } ∷ l.path) (cond d (drop 1 l.path) l.path)) ≡ Some b
    by_kind true d e = rw p refl
    by_kind false true e = closed-inner l.path b p e
    by_kind false false e = p
