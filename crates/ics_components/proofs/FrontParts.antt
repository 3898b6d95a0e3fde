-- The lines of a part as the first round reads them: what is open in it, and what is gathered of them up to its END.
use Rattle.std.proofs.Common.{◌≡◌, ℕ, ◌<◌, ◌≤◌, Bool, true, false, ◌&&◌, ◌==◌, List, [], ◌∷◌, ◌++◌, drop, map, refl, sym, ap, ◌∙◌, arith, cond, take}
use Rattle.std.proofs.Common.{Option, Some, None, subst}
use Rattle.std.proofs.lemmas.Bool.{le-leb, lt-leb, ne_eqb}
use Rattle.std.proofs.lemmas.List.{append-nil}
use Rattle.ics_text.specs.Bytes.{upper}
use Rattle.ics_text.specs.ContentLines.{Parts}
use Rattle.ics_components.specs.declared.builder.Builder.{Builder}
use Rattle.ics_components.specs.declared.builder.Builder.TheVariants as builder
use Rattle.ics_components.specs.declared.component.Component.{Component}
use Rattle.ics_components.specs.declared.deferred_check.DeferredCheck.{DeferredCheck}
use Rattle.ics_components.specs.declared.fault.FaultKind.{FaultKind}
use Rattle.ics_components.specs.declared.fault.FaultKind.TheVariants.{BadLine}
use Rattle.ics_components.specs.declared.frame.Frame.{Frame}
use Rattle.ics_components.specs.declared.name.Name.{Name}
use Rattle.ics_components.specs.declared.name.Name.TheVariants as name
use Rattle.ics_components.specs.declared.parsed_file.CalendarEvent.{CalendarEvent}
use Rattle.ics_components.specs.declared.parsed_file.ClosedComponent.TheVariants as ended
use Rattle.ics_components.specs.declared.parsed_file.LineCheck.{LineCheck}
use Rattle.ics_components.specs.Builders.{builder_at}
use Rattle.ics_components.specs.Components.{component_of, context_in}
use Rattle.ics_components.specs.FrontSeen.{FrontSeen}
use Rattle.ics_components.specs.Inner.FrontParts.{checks_behind, checks_until, front_behind, front_read}
use Rattle.ics_components.specs.Lines.{behind, builder_note, check_in, closed, context_at, end_check, end_in, fault_on, joined, line_result, passing}
use Rattle.ics_components.specs.Names.{same_name}
use Rattle.ics_components.specs.ParsedFileSeen.{ParsedFileSeen}
use Rattle.ics_components.specs.ParsedFiles.{and_line, checks_of, nothing_parsed}
use Rattle.ics_components.specs.Parted.{AreInPlace, Broken, LinesRead, Reads, begins_part, part_in, read_behind, read_on, unless_faulty}
use Rattle.ics_components.specs.PlacedLines.{Open, Placed, context_of, innermost, is_begin, is_end, name_on, named, path_behind}
use Rattle.ics_components.proofs.BlockHolds.{IsFilled, reads-are}
use Rattle.ics_components.proofs.Blocks.{and_parsed, and_read, broken-stays, read_from}
use Rattle.ics_components.proofs.Folds.{frames-behind, frames_at, nothing-more, nothing-passes, plain-there, steady}
use Rattle.ics_components.proofs.PartKinds.{InZone, begins-zone, ends-zone, no_zones, notes-zone, same-zone}
use Rattle.ics_components.proofs.PartPaths.{begins-by}
use Rattle.ics_components.proofs.PartsLemmas.{behind-none}
use Rattle.ics_components.proofs.RestFaults.{never-both, two-of}
use Rattle.ics_components.proofs.Table.{frame_of}

-- LINES that are read without a fault where these components are open and that is gathered.
pub record AreRead (frames : List Frame) (had : ParsedFileSeen) (ls : List Placed) (more : ParsedFileSeen) : Type 0 where
  pub last : List Frame
  pub reads : read_behind (Reads frames had) ls ≡ Reads last more

pub none-read : {frames : List Frame} {had more : ParsedFileSeen} → AreRead frames had [] more → had ≡ more
none-read {frames} {had} {more} r = reads-are frames r.last had more r.reads

-- the first of them, and those behind it
pub record IsSound (l : Placed) (frames : List Frame) (had : ParsedFileSeen) : Type 0 where
  pub parts : Parts
  pub content : l.content ≡ Some parts
  pub sound : fault_on (named parts) parts frames ≡ None
  pub reads : read_on l.number l.content (Reads frames had)
      ≡ Reads (behind l.number (named parts) parts frames) (and_line l.number (passing (named parts) parts frames) had)

pub sound-line : {l : Placed} {ls : List Placed} {frames : List Frame} {had more : ParsedFileSeen} → AreRead frames had (l ∷ ls) more → IsSound l frames had
sound-line {l} {ls} {frames} {had} {more} r = by_content l.content refl r.reads
  where
    by_fault : (c : Parts) → l.content ≡ Some c → (o : Option FaultKind) → fault_on (named c) c frames ≡ o →
        read_behind (unless_faulty l.number o (Reads (behind l.number (named c) c frames) (and_line l.number (passing (named c) c frames) had))) ls
        ≡ Reads r.last more → IsSound l frames had
    by_fault c at None is e = record { parts = c; content = at; sound = is; reads = rw (at, is) refl }
    by_fault c at (Some kind) is e = let broken = sym (broken-stays ls (record { line = l.number; kind = kind })) ∙ e in cc

    by_content : (o : Option Parts) → l.content ≡ o → read_behind (read_on l.number o (Reads frames had)) ls ≡ Reads r.last more → IsSound l frames had
    by_content None at e = let broken = sym (broken-stays ls (record { line = l.number; kind = BadLine })) ∙ e in cc
    by_content (Some c) at e = by_fault c at (fault_on (named c) c frames) refl e

pub read-next : {l : Placed} {ls : List Placed} {frames now : List Frame} {had own more : ParsedFileSeen} → AreRead frames had (l ∷ ls) more →
    read_on l.number l.content (Reads frames had) ≡ Reads now own → AreRead now own ls more
read-next {ls = ls} r e = record { last = r.last; reads = sym (ap (λ read. read_behind read ls) e) ∙ r.reads }

-- what is gathered of lines by themselves is what they add
pub record IsLeft (frames : List Frame) (own : ParsedFileSeen) (ls : List Placed) (more : ParsedFileSeen) : Type 0 where
  pub left : ParsedFileSeen
  pub read : AreRead frames nothing_parsed ls left
  pub all : and_parsed own left ≡ more

pub left-read : {frames : List Frame} {own : ParsedFileSeen} {ls : List Placed} {more : ParsedFileSeen} → AreRead frames own ls more → IsLeft frames own ls more
left-read {frames} {own} {ls} {more} r = by_read (read_behind (Reads frames nothing_parsed) ls) refl
  where
    by_read : (read : LinesRead) → read_behind (Reads frames nothing_parsed) ls ≡ read → IsLeft frames own ls more
    by_read (Broken fault) is = let broken = sym (read_from ls frames own ∙ ap (and_read own) is) ∙ r.reads in cc
    by_read (Reads last left) is = record {
      left = left;
      read = record { last = last; reads = is };
      all = reads-are last r.last (and_parsed own left) more (sym (read_from ls frames own ∙ ap (and_read own) is) ∙ r.reads);
    }

-- a line before which no part is open
pub free-reads : (l : Placed) → part_in l.path ≡ None → IsSound l (frames_at l.path) nothing_parsed →
    read_on l.number l.content (Reads (frames_at l.path) nothing_parsed) ≡ Reads (frames_at (path_behind l)) nothing_parsed
free-reads l out s =
    s.reads
    ∙ (λ i. Reads (frames-behind l out s.parts s.content i)
    (and_line l.number (nothing-passes l.path (plain-there l.path out) (named s.parts) s.parts i) nothing_parsed))
    ∙ ap (Reads (frames_at (path_behind l))) (nothing-more l.number nothing_parsed)

-- THE KINDS of components that are open in a part: the event itself and what is in it, which is not read, and a time zone with what is in it.
abbrev pub IsKind : Bool → Bool → Builder → Type 0
IsKind false own b = InZone b
IsKind true true (builder.Event had) = Unit {0}
IsKind true false builder.Elsewhere = Unit {0}
IsKind true _ _ = ⊥

begins-kind : (e own : Bool) (b : Builder) → IsKind e own b → (c : Component) → IsKind e false (builder_at [] [] (context_in (context_at b) c))
begins-kind false own b k c = begins-zone b k c
begins-kind true true (builder.Event had) k c = tt
begins-kind true false builder.Elsewhere k c = tt
begins-kind true _ _ k c = absurd k

ends-kind : (e own : Bool) (g b : Builder) → IsKind e own g → IsKind e own (joined g b)
ends-kind false own g b k = ends-zone g b k
ends-kind true true (builder.Event had) b k = tt
ends-kind true false builder.Elsewhere b k = tt
ends-kind true _ _ b k = absurd k

notes-kind : (e own : Bool) (n : Name) (c : Parts) (b : Builder) → IsKind e own b → IsKind e own (builder_note n c b)
notes-kind false own n c b k = notes-zone n c b k
notes-kind true true n c (builder.Event had) k = tt
notes-kind true false n c builder.Elsewhere k = tt
notes-kind true _ n c _ k = absurd k

-- WHAT IS OPEN while the part is that begins on a line: components in it, the part, and what is open around it.
abbrev pub AreIn : Bool → ℕ → List Open → List Frame → Type 0
AreIn e b [] frames = ⊥
AreIn e b (o ∷ os) [] = ⊥
AreIn e b (o ∷ os) (f ∷ fs) =
    IsFilled fs × IsKind e (o.begun == b) f.builder × ((o.begun == b) ≡ true → fs ≡ frames_at os) × ((o.begun == b) ≡ false → AreIn e b os fs)

in-by : (e : Bool) (b number : ℕ) (c : Parts) (path : List Open) (frames : List Frame) (n : Name) → AreIn e b path frames →
    (same_name n name.End && (innermost path == b)) ≡ false → (number == b) ≡ false →
    AreIn e b
    (cond (same_name n name.Begin) (record { name = map upper c.value; begun = number } ∷ path) (cond (same_name n name.End) (drop 1 path) path))
    (behind number n c frames)
in-by e b number c [] frames n over t ne = absurd over
in-by e b number c (o ∷ os) [] n over t ne = absurd over
in-by e b number c (o ∷ os) (f ∷ []) n over t ne = absurd over.0
in-by e b number c (o ∷ os) (f ∷ g ∷ gs) name.Begin over t ne =
    (tt, rw ne (begins-kind e (o.begun == b) f.builder over.1 (component_of (map upper c.value))), λ t. never-both (number == b) t ne, λ t. over)
in-by e b number c (o ∷ []) (f ∷ g ∷ gs) name.End over t ne = absurd (over.3 t)
in-by e b number c (o ∷ p ∷ ps) (f ∷ g ∷ gs) name.End over t ne =
    let outer = over.3 t in (outer.0, ends-kind e (p.begun == b) g.builder f.builder outer.1, outer.2, outer.3)
in-by e b number c (o ∷ os) (f ∷ g ∷ gs) n over t ne = (over.0, notes-kind e (o.begun == b) n c f.builder over.1, over.2, over.3)

-- WHAT IS GATHERED of a part before its END, and with it: the event, with the checks of its lines, and no events and no checks of a time zone.
abbrev pub AreUntil : ℕ → List LineCheck → Type 0
AreUntil n [] = Unit {0}
AreUntil n (c ∷ cs) = (c.line ≤ n) × AreUntil n cs

abbrev pub AreAbove : ℕ → List LineCheck → Type 0
AreAbove n [] = Unit {0}
AreAbove n (c ∷ cs) = (n < c.line) × AreAbove n cs

abbrev IsOne : List CalendarEvent → Type 0
IsOne (v ∷ []) = Unit {0}
IsOne _ = ⊥

abbrev pub Held : Bool → ℕ → ParsedFileSeen → Type 0
Held true n own = (own.events ≡ []) × (own.zones ≡ []) × AreUntil n own.checks
Held false n own = (own.events ≡ []) × (own.checks ≡ [])

abbrev pub Ended : Bool → ℕ → ParsedFileSeen → Type 0
Ended true n own = IsOne own.events × (own.zones ≡ []) × AreUntil n own.checks
Ended false n own = (own.events ≡ []) × (own.checks ≡ [])

until-more : (n number : ℕ) (check : Option DeferredCheck) (checks : List LineCheck) → n ≤ number → AreUntil n checks →
    AreUntil number (checks ++ checks_of number check)
until-more n number None [] le h = tt
until-more n number (Some check) [] le h = (omega arith, tt)
until-more n number check (c ∷ cs) le h = (omega (arith, le, h.0), until-more n number check cs le h.1)

held-more : (n number : ℕ) (check : Option DeferredCheck) (had : ParsedFileSeen) → n ≤ number → Held true n had →
    Held true number (and_line number (line_result ended.Nothing check) had)
held-more n number check had le held =
    (append-nil had.events ∙ held.0, append-nil had.zones ∙ held.1, until-more n number check had.checks le held.2)

module _ (number : ℕ) (c : Parts) (f : Frame) (fs : List Frame) where
  held-zone : (n : Name) (m k : ℕ) (had : ParsedFileSeen) → InZone f.builder → Held false m had → Held false k (and_line number (passing n c (f ∷ fs)) had)
  held-zone n m k had z held =
      let same : no_zones (and_line number (passing n c (f ∷ fs)) had) ≡ no_zones had = same-zone number n c f z had in
      (ap (λ (x : ParsedFileSeen). x.events) same ∙ held.0, ap (λ (x : ParsedFileSeen). x.checks) same ∙ held.1)

  nothing-ends : (own : Bool) (b : Builder) → IsKind true own b → (n : Name) → (same_name n name.End && own) ≡ false →
      end_in n (record f { builder = b }) ≡ ended.Nothing
  nothing-ends true (builder.Event v) k name.End t = cc
  nothing-ends true (builder.Event v) k _ t = refl
  nothing-ends false builder.Elsewhere k name.End t = refl
  nothing-ends false builder.Elsewhere k _ t = refl
  nothing-ends _ _ k n t = absurd k

  held-line : (e own : Bool) (n : Name) (m : ℕ) (had : ParsedFileSeen) → (same_name n name.End && own) ≡ false → m ≤ number → IsKind e own f.builder →
      Held e m had → Held e number (and_line number (passing n c (f ∷ fs)) had)
  held-line true own n m had t le k held = rw (nothing-ends own f.builder k n t) (held-more m number (check_in n c f) had le held)
  held-line false own n m had t le k held = held-zone n m number had k held

  ended-line : (e : Bool) (m : ℕ) (had : ParsedFileSeen) → m ≤ number → IsKind e true f.builder → Held e m had →
      Ended e number (and_line number (passing name.End c (f ∷ fs)) had)
  ended-line true m had le k held = by_builder f.builder k
    where
      by_builder : (b : Builder) → IsKind true true b → Ended true number (and_line number (passing name.End c (record f { builder = b } ∷ fs)) had)
      by_builder (builder.Event v) k = (
        rw (held.0) tt,
        append-nil had.zones ∙ held.1,
        until-more m number (end_check f.calendar (builder.Event v)) had.checks le held.2,
      )
      by_builder _ k = absurd k
  ended-line false m had le k held = held-zone name.End m number had k held

-- a line of the part or of a component in it, and its END
module _ (e : Bool) (b number : ℕ) (c : Parts) where
  held-by : (path : List Open) (frames : List Frame) (n : Name) (m : ℕ) (had : ParsedFileSeen) → AreIn e b path frames →
      (same_name n name.End && (innermost path == b)) ≡ false → m ≤ number → Held e m had → Held e number (and_line number (passing n c frames) had)
  held-by [] frames n m had over t le held = absurd over
  held-by (o ∷ os) [] n m had over t le held = absurd over
  held-by (o ∷ os) (f ∷ fs) n m had over t le held = held-line number c f fs e (o.begun == b) n m had t le over.1 held

  closed-base : (os : List Open) (f : Frame) → part_in os ≡ None → closed (f ∷ frames_at os) ≡ frames_at os
  closed-base [] f out = refl
  closed-base (o ∷ os) f out =
      ap (λ s. record (frame_of [] (o ∷ os) []) { builder = s } ∷ frames_at os) (steady (context_of (o ∷ os)) (plain-there (o ∷ os) out) f.builder)

  ended-by : (path : List Open) (frames : List Frame) (n : Name) (m : ℕ) (had : ParsedFileSeen) → AreIn e b path frames →
      (same_name n name.End && (innermost path == b)) ≡ true → part_in (drop 1 path) ≡ None → m ≤ number → Held e m had →
      (behind number n c frames ≡ frames_at (drop 1 path)) × Ended e number (and_line number (passing n c frames) had)
  ended-by [] frames n m had over t out le held = absurd over
  ended-by (o ∷ os) [] n m had over t out le held = absurd over
  ended-by (o ∷ os) (f ∷ fs) name.End m had over t out le held =
      let own : IsKind e true f.builder = subst (λ (x : Bool). IsKind e x f.builder) t over.1 in
      (ap (λ gs. closed (f ∷ gs)) (over.2 t) ∙ closed-base os f out, ended-line number c f fs e m had le own held)
  ended-by (o ∷ os) (f ∷ fs) n m had over t out le held = cc

-- WITHIN A PART, before a line with that number or a greater one.
pub record IsWithin (e : Bool) (b n : ℕ) (path : List Open) (frames : List Frame) (own : ParsedFileSeen) : Type 0 where
  pub over : AreIn e b path frames
  pub held : Held e n own

module _ {e : Bool} {b n : ℕ} {l : Placed} {frames : List Frame} {own : ParsedFileSeen} (s : IsSound l frames own) (w : IsWithin e b n l.path frames own)
    (le : n ≤ l.number) where
  end-by : (t : Bool) → (is_end l && (innermost l.path == b)) ≡ t → (same_name (named s.parts) name.End && (innermost l.path == b)) ≡ t
  unfolding name_on
  end-by t is = rw (s.content) at is

  pub within-behind : b < l.number → (is_end l && (innermost l.path == b)) ≡ false →
      IsWithin e b l.number (path_behind l) (behind l.number (named s.parts) s.parts frames) (and_line l.number (passing (named s.parts) s.parts frames) own)
  unfolding name_on
  within-behind less t = record {
    over =
        rw (s.content)
        (in-by e b l.number s.parts l.path frames (named s.parts) w.over (end-by false t) (ne_eqb l.number b (λ same. omega (arith, same, less))));
    held = held-by e b l.number s.parts l.path frames (named s.parts) n own w.over (end-by false t) le w.held;
  }

  pub ended-behind : (is_end l && (innermost l.path == b)) ≡ true → part_in (drop 1 l.path) ≡ None →
      (behind l.number (named s.parts) s.parts frames ≡ frames_at (drop 1 l.path))
      × Ended e l.number (and_line l.number (passing (named s.parts) s.parts frames) own)
  ended-behind t out = ended-by e b l.number s.parts l.path frames (named s.parts) n own w.over (end-by true t) out le w.held

-- WHAT IS TAKEN FROM THE FRONT at the END of an event is what is gathered of it.
abbrev pub front_of : ParsedFileSeen → FrontSeen
front_of had = record { events = had.events; checks = had.checks }

take-one : (xs more : List CalendarEvent) → IsOne xs → take 1 (xs ++ more) ≡ xs
take-one (x ∷ []) more k = refl
take-one _ more k = absurd k

drop-one : (xs more : List CalendarEvent) → IsOne xs → drop 1 (xs ++ more) ≡ more
drop-one (x ∷ []) more k = refl
drop-one _ more k = absurd k

until-first : (n : ℕ) (xs more : List LineCheck) → AreUntil n xs → AreAbove n more → checks_until n (xs ++ more) ≡ xs
until-first n [] [] h a = refl
until-first n [] (c ∷ cs) h a = rw (lt-leb c.line n a.0) refl
until-first n (x ∷ xs) more h a = rw (le-leb x.line n h.0) (ap (λ cs. x ∷ cs) (until-first n xs more h.1 a))

behind-first : (n : ℕ) (xs more : List LineCheck) → AreUntil n xs → AreAbove n more → checks_behind n (xs ++ more) ≡ more
behind-first n [] [] h a = refl
behind-first n [] (c ∷ cs) h a = rw (lt-leb c.line n a.0) refl
behind-first n (x ∷ xs) more h a = rw (le-leb x.line n h.0) (behind-first n xs more h.1 a)

module _ (n : ℕ) (own more : ParsedFileSeen) where
  pub event-taken : Ended true n own → AreAbove n more.checks → front_read n (front_of (and_parsed own more)) ≡ own
  event-taken h a =
      λ i. record { zones = sym h.1 i; events = take-one own.events more.events h.0 i; checks = until-first n own.checks more.checks h.2 a i }

  pub event-left : Ended true n own → AreAbove n more.checks → front_behind n (front_of (and_parsed own more)) ≡ front_of more
  event-left h a = λ i. record { events = drop-one own.events more.events h.0 i; checks = behind-first n own.checks more.checks h.2 a i }

  pub zone-left : Ended false n own → front_of (and_parsed own more) ≡ front_of more
  zone-left h = λ i. record { events = h.0 i ++ more.events; checks = h.1 i ++ more.checks }

-- THE CHECKS of the lines behind a line are those of lines behind it, though the next line may have the same number.
above-more : (n number : ℕ) (check : Option DeferredCheck) (checks : List LineCheck) → n < number → AreAbove n checks →
    AreAbove n (checks ++ checks_of number check)
above-more n number None [] less h = tt
above-more n number (Some check) [] less h = (less, tt)
above-more n number check (c ∷ cs) less h = (h.0, above-more n number check cs less h.1)

module _ (n : ℕ) (rest : List Placed) where
  -- of all lines with a greater number
  later : (ls : List Placed) (m : ℕ) (path : List Open) {frames : List Frame} {had more : ParsedFileSeen} → n < m → AreInPlace m path (ls ++ rest) →
      AreAbove n had.checks → AreRead frames had ls more → AreAbove n more.checks
  later [] m path less h above r = subst (λ (x : ParsedFileSeen). AreAbove n x.checks) (none-read r) above
  later (l ∷ ls) m path {frames} {had} less h above r =
      let s = sound-line r in
      let here : n < l.number = omega (arith, less, h.1) in
      later ls l.number (path_behind l) here h.4 (above-more n l.number (passing (named s.parts) s.parts frames).check had.checks here above)
      (read-next r s.reads)

  pub above : (ls : List Placed) (m : ℕ) (path : List Open) {more : ParsedFileSeen} → n ≤ m → AreInPlace m path (ls ++ rest) → part_in path ≡ None →
      AreRead (frames_at path) nothing_parsed ls more → AreAbove n more.checks
  above [] m path le h out r = subst (λ (x : ParsedFileSeen). AreAbove n x.checks) (none-read r) tt
  above (l ∷ ls) m path {more} le h out r =
      by_test (begins_part l) refl (λ p. above ls l.number (path_behind l) (omega (arith, le, h.1)) h.4 p next)
    where
      here : part_in l.path ≡ None
      here = rw (h.0) out

      now : AreRead (frames_at l.path) nothing_parsed (l ∷ ls) more
      now = subst (λ (q : List Open). AreRead (frames_at q) nothing_parsed (l ∷ ls) more) (sym h.0) r

      next : AreRead (frames_at (path_behind l)) nothing_parsed ls more
      next = read-next now (free-reads l here (sound-line now))

      by_test : (t : Bool) → begins_part l ≡ t → (part_in (path_behind l) ≡ None → AreAbove n more.checks) → AreAbove n more.checks
      by_test true t again =
          let less : m < l.number = h.2 (two-of (is_begin l) _ (sym (begins-by l) ∙ t)).0 in
          later ls l.number (path_behind l) (omega (arith, le, less)) h.4 tt next
      by_test false t again = again (behind-none l t here)
