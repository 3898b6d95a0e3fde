-- The parts' pass over the lines of a front, of which no event is read, gathers what the pass over the same lines gathers that reads them.
use Rattle.std.proofs.Common.{◌≡◌, ℕ, ◌<◌, ◌≤◌, Bool, true, false, ◌&&◌, ◌||◌, not, ◌==◌, List, [], ◌∷◌, ◌++◌, drop, refl, sym, ap, ◌∙◌, arith, cond}
use Rattle.std.proofs.Common.{Option, Some, None, subst}
use Rattle.std.specs.Prelude.{Result, Ok, codes, find, is_none, option_map}
use Rattle.std.specs.Str.{bytes_eq}
use Rattle.std.proofs.Math.Bool.{and-false}
use Rattle.std.proofs.lemmas.Bool.{eq-eqb}
use Rattle.std.proofs.lemmas.Slice.Eq.{bytes_eq-Decides}
use Rattle.ics_components.specs.declared.builder.Builder.{Builder}
use Rattle.ics_components.specs.declared.component.Context.{Context}
use Rattle.ics_components.specs.declared.component.Context.TheVariants as context
use Rattle.ics_components.specs.declared.fault.Fault.{Fault}
use Rattle.ics_components.specs.declared.fault.FaultKind.TheVariants.{BadNesting, TooDeep}
use Rattle.ics_components.specs.declared.frame.Frame.{Frame}
use Rattle.ics_components.specs.Builders.{builder_at}
use Rattle.ics_components.specs.Components.{component_of, context_in, is_calendar_context}
use Rattle.ics_components.specs.EventLines.{is_event, is_uid, nests}
use Rattle.ics_components.specs.Faults.{stands}
use Rattle.ics_components.specs.FirstFault.{no_open}
use Rattle.ics_components.specs.FrontSeen.{FrontSeen}
use Rattle.ics_components.specs.Fronts.{IsFrontOf}
use Rattle.ics_components.specs.Inner.FrontParts.{front_behind, front_read, has_events}
use Rattle.ics_components.specs.Inner.FrontedRound.{FrontedSeen, begun_still, by_fronted, closed_with, front_left, fronted_over, still}
use Rattle.ics_components.specs.Inner.PartsPass.{NotesSeen, PartSeen, RoundSeen, and_closed, and_outside, by_part, goes_on, noted_directly, notes_begun}
use Rattle.ics_components.specs.Inner.PartsPass.{part_begun, part_closed, round_begun, round_over, with_line}
use Rattle.ics_components.specs.Lines.{passing}
use Rattle.ics_components.specs.Observances.{begins_zone}
use Rattle.ics_components.specs.ParsedFileSeen.{ParsedFileSeen}
use Rattle.ics_components.specs.ParsedFiles.{and_line, nothing_parsed}
use Rattle.ics_components.specs.Parted.{AreInPlace, LinesRead, PartedFileSeen, Reads, begins_part, frames_around, is_part, kinds_there, part_in}
use Rattle.ics_components.specs.Parted.{gathered_in, read_on}
use Rattle.ics_components.specs.PlacedLines.{Open, Placed, component, context_of, in_calendar, innermost, is_begin, is_end, name_on, named, path_behind}
use Rattle.ics_components.proofs.BlockHolds.{IsFilled}
use Rattle.ics_components.proofs.Folds.{around, fault-same, frames_at, neither-of, no-path, part-bounds}
use Rattle.ics_components.proofs.FrontParts.{AreAbove, AreIn, AreRead, Ended, Held, IsKind, IsLeft, IsSound, IsWithin, above, ended-behind, event-left}
use Rattle.ics_components.proofs.FrontParts.{event-taken, free-reads, front_of, left-read, none-read, read-next, sound-line, within-behind, zone-left}
use Rattle.ics_components.proofs.Order.{Falls, falls-behind, inside}
use Rattle.ics_components.proofs.PartPaths.{begins-by, closed-part}
use Rattle.ics_components.proofs.PartsLemmas.{begun-kept, behind-begun, behind-inner, behind-none, end-no-begin, event-kept, fresh, marks}
use Rattle.ics_components.proofs.RestFaults.{never-both, two-of}
use Rattle.ics_components.proofs.RoundWhole.{round_at}

-- THE PART THAT BEGINS on a line: an event stands in a calendar, or its BEGIN has a fault.
is-calendar : (q : Context) → is_calendar_context q ≡ true → q ≡ context.Calendar
is-calendar context.Calendar e = refl
is-calendar _ e = cc

no-calendar : (a b c : Bool) → ((a || b) && c) ≡ true → a ≡ false → b ≡ true
no-calendar a b c e f = grind (arith, e, f)

module _ (l : Placed) (out : part_in l.path ≡ None) where
  called : (a b : Bool) (word : List ℕ) → (a && (b && bytes_eq (component l) word)) ≡ true → component l ≡ word
  called a b word e = (bytes_eq-Decides (component l) word).0 (two-of b (bytes_eq (component l) word) (two-of a (b && bytes_eq (component l) word) e).1).1

  in-calendar : (had : ParsedFileSeen) → is_event l ≡ true → nests l ≡ true → IsSound l (frames_at l.path) had → in_calendar l ≡ true
  in-calendar had e nest s = by_test (in_calendar l) refl
    where
      two : (stands BadNesting [] l ≡ false) × (stands TooDeep [] l ≡ false)
      two = neither-of (stands BadNesting [] l) (stands TooDeep [] l) nest

      none : find (λ kind. stands kind [] l) kinds_there ≡ None
      none = sym (fault-same l out s.parts s.content two.0 two.1) ∙ s.sound

      by_test : (t : Bool) → in_calendar l ≡ t → t ≡ true
      by_test true i = refl
      by_test false i =
          let path : l.path ≡ [] = no-path l.path (no-calendar (in_calendar l) (no_open l.path) _ e i) in
          let word : component l ≡ codes "VEVENT" = called (in_calendar l || no_open l.path) (is_begin l) (codes "VEVENT") e in
          let there : is_none l.content ≡ false = rw (s.content) refl in
          let fault = rw (there, path, word, and-false (is_begin l)) at none in
          cc

  kind-begun : (had : ParsedFileSeen) → begins_part l ≡ true → nests l ≡ true → IsSound l (frames_at l.path) had →
      IsKind (is_event l) true (builder_at [] [] (context_in (context_of l.path) (component_of (component l))))
  kind-begun had begins nest s = by_test (is_event l) refl
    where
      by_test : (t : Bool) → is_event l ≡ t → IsKind t true (builder_at [] [] (context_in (context_of l.path) (component_of (component l))))
      by_test true e =
          let place : context_of l.path ≡ context.Calendar = is-calendar (context_of l.path) (in-calendar had e nest s) in
          rw (place, called (in_calendar l || no_open l.path) (is_begin l) (codes "VEVENT") e) tt
      by_test false e =
          let zone : begins_zone l ≡ true = sym (ap (λ t. t || begins_zone l) e) ∙ begins in
          let place : context_of l.path ≡ context.Calendar = is-calendar (context_of l.path) (two-of (in_calendar l) _ zone).0 in
          rw (place, called (in_calendar l) (is_begin l) (codes "VTIMEZONE") zone) tt

  in-begun : (had : ParsedFileSeen) → begins_part l ≡ true → nests l ≡ true → IsSound l (frames_at l.path) had → is_begin l ≡ true →
      AreIn (is_event l) l.number (path_behind l) (frames_at (path_behind l))
  in-begun had begins nest s begin =
      subst (λ (q : List Open). AreIn (is_event l) l.number q (frames_at q)) (sym opened) (
        filled l.path,
        subst (λ (t : Bool). IsKind (is_event l) t now) (sym same) (kind-begun had begins nest s),
        λ t. refl,
        λ t. never-both (l.number == l.number) same t,
      )
    where
      opened : path_behind l ≡ inside l
      opened = rw begin refl

      filled : (path : List Open) → IsFilled (frames_at path)
      filled [] = tt
      filled (o ∷ os) = tt

      same : (l.number == l.number) ≡ true
      same = eq-eqb l.number l.number refl

      now : Builder
      now = builder_at [] [] (context_in (context_of l.path) (component_of (component l)))

-- THE ROUNDS, with a part that is open or none.
abbrev read_in : Bool → LinesRead → LinesRead
read_in true read = still
read_in false read = read

abbrev part_of : NotesSeen → LinesRead → PartSeen
part_of notes read = record { notes = notes; read = read }

abbrev fronted_at : List Open → Option PartSeen → Bool → Bool → PartedFileSeen → FrontSeen → FrontedSeen
fronted_at path part u o had front = record { round = round_at path part u o had; front = front }

read-in-on : (l : Placed) (e : Bool) (read : LinesRead) → read_on l.number l.content (read_in e read) ≡ read_in e (read_on l.number l.content read)
read-in-on l true read = refl
read-in-on l false read = refl

stilled : (notes : NotesSeen) (read : LinesRead) (t : Bool) → cond t (part_of notes still) (part_of notes read) ≡ part_of notes (read_in t read)
stilled notes read true = refl
stilled notes read false = refl

-- a part with what is taken from the front
module _ (n : ℕ) (front : FrontSeen) (now : NotesSeen) (a : LinesRead) where
  closed-event : (b : LinesRead) (own : ParsedFileSeen) (had : PartedFileSeen) → now.is_event ≡ true → front_read n front ≡ own → gathered_in b ≡ Ok own →
      and_closed (closed_with n front (part_of now a)) had ≡ and_closed (part_of now b) had
  closed-event b own had is taken e =
      rw is
      (ap (λ (r : Result ParsedFileSeen Fault). record had { events = had.events ++ record (part_closed (part_of now a)) { read = r } ∷ [] })
      (ap Ok taken ∙ sym e))

  closed-zone : (b : LinesRead) (had : PartedFileSeen) → now.is_event ≡ false → a ≡ b →
      and_closed (closed_with n front (part_of now a)) had ≡ and_closed (part_of now b) had
  closed-zone b had is e = rw is (ap (λ (r : LinesRead). record had { zones = had.zones ++ part_closed (part_of now r) ∷ [] }) e)

  left-event : now.is_event ≡ true → front_left n front (part_of now a) ≡ front_behind n front
  left-event is = rw is refl

  left-zone : now.is_event ≡ false → front_left n front (part_of now a) ≡ front
  left-zone is = rw is refl

-- each line of the front, and each of the rest
module _ (rest : List Placed) where
  abbrev Free : List Placed → Type 0
  Free ls =
      (n : ℕ) (path : List Open) (u o : Bool) (had : PartedFileSeen) (more : ParsedFileSeen) → Falls path → AreInPlace n path (ls ++ rest) →
      part_in path ≡ None → AreRead (frames_at path) nothing_parsed ls more →
      fronted_over (fronted_at path None u o had (front_of more)) (ls ++ rest) ≡ round_over (round_at path None u o had) (ls ++ rest)

  abbrev Within : List Placed → Type 0
  Within ls =
      (n : ℕ) (path : List Open) (notes : NotesSeen) (u o : Bool) (had : PartedFileSeen) (frames : List Frame) (own more : ParsedFileSeen) → Falls path →
      AreInPlace n path (ls ++ rest) → part_in path ≡ Some notes.begun → IsWithin notes.is_event notes.begun n path frames own →
      has_events (front_of more) ≡ true → AreRead frames own ls more →
      fronted_over (fronted_at path (Some (part_of notes (read_in notes.is_event (Reads frames own)))) u o had (front_of more)) (ls ++ rest)
      ≡ round_over (round_at path (Some (part_of notes (Reads frames own))) u o had) (ls ++ rest)

module _ (rest : List Placed) (l : Placed) (ls : List Placed) (falls : Falls l.path) (inner : innermost l.path < l.number)
    (h : AreInPlace l.number (path_behind l) (ls ++ rest)) (path : List Open) (u o : Bool) (had : PartedFileSeen) (more : ParsedFileSeen) where
  abbrev fronted_by : Option PartSeen → FrontedSeen
  fronted_by part =
      let taken : FrontedSeen = by_fronted part l (fronted_at path None u o had (front_of more)) in
      record taken { round = record taken.round { path = path_behind l; is_behind_uid = is_uid l } }

  abbrev round_by : Option PartSeen → RoundSeen
  round_by part =
      let taken : RoundSeen = by_part part l (round_at path None u o had) in record taken { path = path_behind l; is_behind_uid = is_uid l }

  -- the rounds behind the line are alike, with these parts open at it; and so where one of them is not read if it is an event
  abbrev AreAlike : Option PartSeen → Option PartSeen → Type 0
  AreAlike part read = fronted_over (fronted_by part) (ls ++ rest) ≡ round_over (round_by read) (ls ++ rest)

  abbrev IsAlike : NotesSeen → LinesRead → Type 0
  IsAlike notes read = AreAlike (Some (part_of notes (read_in notes.is_event read))) (Some (part_of notes read))

  -- in a part
  goes-in : Within rest ls → (notes : NotesSeen) (read : LinesRead) {frames : List Frame} {own : ParsedFileSeen} →
      (is_end l && (innermost l.path == notes.begun)) ≡ false → read_on l.number l.content read ≡ Reads frames own →
      part_in (path_behind l) ≡ Some notes.begun → IsWithin notes.is_event notes.begun l.number (path_behind l) frames own →
      has_events (front_of more) ≡ true → AreRead frames own ls more → IsAlike notes read
  goes-in within notes read {frames} {own} goes reads p w some r =
      rw goes
      (ap (λ (read : LinesRead). fronted_over (fronted_at (path_behind l) (Some (part_of now read)) (is_uid l) o had (front_of more)) (ls ++ rest)) stands-still
      ∙ within l.number (path_behind l) now (is_uid l) o had frames own more (falls-behind l falls inner).0 h (rw (begun-kept l notes) p)
      (rw (begun-kept l notes, event-kept l notes) w) some r
      ∙ ap (λ (read : LinesRead). round_over (round_at (path_behind l) (Some (part_of now read)) (is_uid l) o had) (ls ++ rest)) (sym reads))
    where
      now : NotesSeen
      now = noted_directly l notes

      stands-still : read_on l.number l.content (read_in notes.is_event read) ≡ read_in now.is_event (Reads frames own)
      stands-still = read-in-on l notes.is_event read ∙ (λ i. read_in (sym (event-kept l notes) i) (reads i))

  -- at its END
  ends-there : Free rest ls → (notes : NotesSeen) (read : LinesRead) (own : ParsedFileSeen) → (is_end l && (innermost l.path == notes.begun)) ≡ true →
      read_on l.number l.content read ≡ Reads (frames_at (path_behind l)) own → part_in (path_behind l) ≡ None → Ended notes.is_event l.number own →
      AreRead (frames_at (path_behind l)) own ls more → IsAlike notes read
  ends-there free notes read own ends reads out all r =
      rw ends
      ((λ i. fronted_over (fronted_at (path_behind l) None (is_uid l) o (both.0 i) (both.1 i)) (ls ++ rest))
      ∙ free l.number (path_behind l) (is_uid l) o (and_closed (with_line l (part_of notes read)) had) rests.left (falls-behind l falls inner).0 h out
      rests.read)
    where
      now : NotesSeen
      now = noted_directly l notes

      unread : LinesRead
      unread = read_on l.number l.content (read_in notes.is_event read)

      rests : IsLeft (frames_at (path_behind l)) own ls more
      rests = left-read r

      behind-it : AreAbove l.number rests.left.checks
      behind-it = above l.number rest ls l.number (path_behind l) (omega arith) h out rests.read

      Taken : Type 0
      Taken = (and_closed (closed_with l.number (front_of more) (part_of now unread)) had
          ≡ and_closed (part_of now (read_on l.number l.content read)) had)
          × (front_left l.number (front_of more) (part_of now unread) ≡ front_of rests.left)

      by_kind : (t : Bool) → notes.is_event ≡ t → Ended t l.number own → Taken
      by_kind true is all =
          let kept = event-kept l notes ∙ is in (
            closed-event l.number (front_of more) now unread (read_on l.number l.content read) own had kept
                (ap (λ m. front_read l.number (front_of m)) (sym rests.all) ∙ event-taken l.number own rests.left all behind-it) (ap gathered_in reads),
            left-event l.number (front_of more) now unread kept
                ∙ ap (λ m. front_behind l.number (front_of m)) (sym rests.all) ∙ event-left l.number own rests.left all behind-it,
          )
      by_kind false is all =
          let kept = event-kept l notes ∙ is in (
            closed-zone l.number (front_of more) now unread (read_on l.number l.content read) had kept
                (ap (λ t. read_on l.number l.content (read_in t read)) is),
            left-zone l.number (front_of more) now unread kept ∙ ap front_of (sym rests.all) ∙ zone-left l.number own rests.left all,
          )

      both : Taken
      both = by_kind notes.is_event refl all

  -- before it, no part is open
  from-none : Free rest ls → Within rest ls → part_in l.path ≡ None → nests l ≡ true → has_events (front_of more) ≡ true →
      AreRead (frames_at l.path) nothing_parsed (l ∷ ls) more → AreAlike (begun_still l) (part_begun l)
  from-none free within out nest some r = by_test (begins_part l) refl
    where
      s : IsSound l (frames_at l.path) nothing_parsed
      s = sound-line r

      next : AreRead (frames_at (path_behind l)) nothing_parsed ls more
      next = read-next r (free-reads l out s)

      by_test : (t : Bool) → begins_part l ≡ t →
          AreAlike (option_map (λ (part : PartSeen). cond part.notes.is_event (record part { read = still }) part) (cond t (Some (fresh l)) None))
          (cond t (Some (fresh l)) None)
      by_test false t = free l.number (path_behind l) (is_uid l) true (and_outside l had) more (falls-behind l falls inner).0 h (behind-none l t out) next
      by_test true t =
          let both = two-of (is_begin l) (is_part l.path (component l)) (sym (begins-by l) ∙ t) in
          let other : is_end l ≡ false = (marks (name_on l.content) both.0).0 in
          let notes : NotesSeen = notes_begun l.number (innermost l.path) (is_event l) in
          let first : LinesRead = Reads (frames_around l.path) nothing_parsed in
          ap (λ (part : PartSeen). fronted_over (fronted_by (Some part)) (ls ++ rest)) (stilled notes first (is_event l))
          ∙ goes-in within notes first (ap (λ t. t && (innermost l.path == l.number)) other)
          (ap (λ fs. read_on l.number l.content (Reads fs nothing_parsed)) (around l.path (component l) both.1) ∙ free-reads l out s)
          (behind-begun l both.0 both.1 out) (record { over = in-begun l out nothing_parsed t nest s both.0; held = nothing-held (is_event l) }) some
          next
        where
          nothing-held : (e : Bool) → Held e l.number nothing_parsed
          nothing-held true = (refl, refl, tt)
          nothing-held false = (refl, refl)

  -- before it, a part is open
  from-part : Free rest ls → Within rest ls → (n : ℕ) (notes : NotesSeen) (frames : List Frame) (own : ParsedFileSeen) → n ≤ l.number →
      part_in l.path ≡ Some notes.begun → IsWithin notes.is_event notes.begun n l.path frames own → has_events (front_of more) ≡ true →
      AreRead frames own (l ∷ ls) more → IsAlike notes (Reads frames own)
  from-part free within n notes frames own le p w some r = by_end (is_end l && (innermost l.path == notes.begun)) refl
    where
      s : IsSound l frames own
      s = sound-line r

      bounds : (0 < notes.begun) × (notes.begun ≤ innermost l.path)
      bounds = part-bounds l.path notes.begun falls p

      by_end : (t : Bool) → (is_end l && (innermost l.path == notes.begun)) ≡ t → IsAlike notes (Reads frames own)
      by_end false t =
          goes-in within notes (Reads frames own) t s.reads (behind-inner l notes.begun p t) (within-behind s w le (omega (arith, bounds.1, inner)) t) some
          (read-next r s.reads)
      by_end true t =
          let ends = two-of (is_end l) (innermost l.path == notes.begun) t in
          let path : path_behind l ≡ drop 1 l.path = rw (end-no-begin (name_on l.content) ends.0, ends.0) refl in
          let out = (closed-part l.path notes.begun falls p ends.1).0 in
          let two = ended-behind s w le t out in
          let own-now : ParsedFileSeen = and_line l.number (passing (named s.parts) s.parts frames) own in
          let reads : read_on l.number l.content (Reads frames own) ≡ Reads (frames_at (path_behind l)) own-now =
          s.reads ∙ ap (λ fs. Reads fs own-now) (two.0 ∙ ap frames_at (sym path)) in
          ends-there free notes (Reads frames own) own-now t reads (ap part_in path ∙ out) two.1 (read-next r reads)

-- A LINE is taken if the front has events and the file still has parts.
taken-alike : (t g : Bool) (x y z : Option PartedFileSeen) → (t ≡ true → g ≡ true → x ≡ y) → (t ≡ false → z ≡ cond g y None) →
    cond t (cond g x None) z ≡ cond g y None
taken-alike true true x y z e f = e refl refl
taken-alike true false x y z e f = refl
taken-alike false g x y z e f = f refl

nothing-yet : {X : Type 0} (e : Bool) (n : ℕ) (own : ParsedFileSeen) → Held e n own → has_events (front_of own) ≡ true → X
nothing-yet true n own held some = let none = ap (λ es. has_events (record { events = es; checks = own.checks })) held.0 in cc
nothing-yet false n own held some = let none = ap (λ es. has_events (record { events = es; checks = own.checks })) held.0 in cc

module _ (rest : List Placed) where
  free-end : Free rest []
  free-end n path u o had more f h out r =
      let none : nothing_parsed ≡ more = none-read r in
      subst (λ (m : ParsedFileSeen). fronted_over (fronted_at path None u o had (front_of m)) rest ≡ round_over (round_at path None u o had) rest) none
      (no-front rest)
    where
      no-front : (ls : List Placed) → fronted_over (fronted_at path None u o had (front_of nothing_parsed)) ls ≡ round_over (round_at path None u o had) ls
      no-front [] = refl
      no-front (l ∷ ls) = refl

  within-end : Within rest []
  within-end n path notes u o had frames own more f h p w some r =
      nothing-yet notes.is_event n own w.held (ap (λ (m : ParsedFileSeen). has_events (front_of m)) (none-read r) ∙ some)

  fronts : (ls : List Placed) → Free rest ls × Within rest ls
  fronts [] = (free-end, within-end)
  fronts (l ∷ ls) =
      let later = fronts ls in (
        λ n path u o had more f h out r.
            taken-alike (has_events (front_of more)) (goes_on l (round_at path None u o had)) _ _ _
            (λ some goes.
            from-none rest l ls (rw (h.0) f) (rw (h.0) h.3) h.4 path u o had more later.0 later.1 (rw (h.0) out)
            (two-of (nests l) (not (u && is_none l.content)) goes).0 some
            (subst (λ (q : List Open). AreRead (frames_at q) nothing_parsed (l ∷ ls) more) (sym h.0) r))
            (λ none. refl),
        λ n path notes u o had frames own more f h p w some r.
            taken-alike (has_events (front_of more)) (goes_on l (round_at path (Some (part_of notes (Reads frames own))) u o had)) _ _ _
            (λ some goes.
            from-part rest l ls (rw (h.0) f) (rw (h.0) h.3) h.4 path u o had more later.0 later.1 n notes frames own h.1 (rw (h.0) p) (rw (h.0) w) some r)
            (λ none. never-both (has_events (front_of more)) some none),
      )

-- THE LAW OF THE FRONT.
pub fronted_whole : (ls : List Placed) (front : FrontSeen) → AreInPlace 0 [] ls → IsFrontOf ls front →
    fronted_over (record { round = round_begun; front = front }) ls ≡ round_over round_begun ls
fronted_whole ls front h is =
    (λ i. fronted_over (record { round = round_begun; front = record { events = is.events i; checks = is.checks i } }) (is.parts i))
    ∙ (fronts is.behind is.before).0 0 [] false false round_begun.parted is.had tt (subst (λ (ms : List Placed). AreInPlace 0 [] ms) is.parts h) refl
    (record { last = is.frames; reads = is.reads })
    ∙ ap (round_over round_begun) (sym is.parts)
