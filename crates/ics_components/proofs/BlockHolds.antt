-- What holds of what is gathered of an event or a time zone, by the steps in which its lines are read by themselves.
use Rattle.std.proofs.Common.{◌≡◌, ◌⊎◌, inl, inr, ℕ, ◌<◌, Bool, true, false, ◌&&◌, ◌||◌, ◌==◌, List, [], ◌∷◌, drop, filter, map, refl, sym, ap, ◌∙◌}
use Rattle.std.proofs.Common.{Option, Some, None, Ok, arith, cond, subst}
use Rattle.std.specs.Prelude.{not}
use Rattle.std.proofs.lemmas.Bool.{eq-eqb, ne_eqb}
use Rattle.ics_text.specs.Bytes.{upper}
use Rattle.ics_text.specs.ContentLines.{Parts}
use Rattle.ics_components.specs.declared.builder.Builder.{Builder}
use Rattle.ics_components.specs.declared.component.Component.{Component}
use Rattle.ics_components.specs.declared.fault.FaultKind.{FaultKind}
use Rattle.ics_components.specs.declared.fault.FaultKind.TheVariants.{BadLine}
use Rattle.ics_components.specs.declared.frame.Frame.{Frame}
use Rattle.ics_components.specs.declared.name.Name.{Name}
use Rattle.ics_components.specs.declared.name.Name.TheVariants as name
use Rattle.ics_components.specs.Builders.{builder_at}
use Rattle.ics_components.specs.Components.{component_of, context_in}
use Rattle.ics_components.specs.Lines.{behind, builder_note, calendar_in, context_at, context_on, fault_on, joined, passing}
use Rattle.ics_components.specs.Names.{same_name}
use Rattle.ics_components.specs.ParsedFileSeen.{ParsedFileSeen}
use Rattle.ics_components.specs.ParsedFiles.{and_line, nothing_parsed}
use Rattle.ics_components.specs.PartFaults.{is_within}
use Rattle.ics_components.specs.Parted.{AreInPlace, Broken, LinesRead, Reads, begins_part, block_read, component_seen, frames_around, gathered_in, is_part}
use Rattle.ics_components.specs.Parted.{part_in, read_behind, read_on, unless_faulty}
use Rattle.ics_components.specs.PlacedLines.{Open, Placed, component, innermost, is_begin, is_end, name_on, named, path_behind}
use Rattle.ics_components.proofs.Blocks.{broken-stays}
use Rattle.ics_components.proofs.Folds.{block-first, no-more-within, part-bounds}
use Rattle.ics_components.proofs.ItemFaults.{IsIn}
use Rattle.ics_components.proofs.Opened.{above, begun-outside}
use Rattle.ics_components.proofs.Order.{Falls, falls-behind, inside}
use Rattle.ics_components.proofs.PartPaths.{begins-by, part-open}
use Rattle.ics_components.proofs.PartsLemmas.{apart, behind-begun, behind-inner}
use Rattle.ics_components.proofs.RestFaults.{never-both, two-of}
use Rattle.ics_components.proofs.Returns.{begins-by-name}

pub reads-are : (fs gs : List Frame) (x y : ParsedFileSeen) → Reads fs x ≡ Reads gs y → x ≡ y
reads-are fs gs x y e = cc

-- THE LINES FROM A BEGIN ON, by which its component is read.
pub record IsFrom (ls : List Placed) (e : Placed) : Type 0 where
  pub rest : List Placed
  pub falls : Falls e.path
  pub inner : innermost e.path < e.number
  pub places : AreInPlace e.number (path_behind e) rest
  pub among : (m : Placed) → IsIn m rest → IsIn m ls
  pub same : component_seen ls e ≡ component_seen (e ∷ rest) e

begins-from : (ls : List Placed) (n : ℕ) (path : List Open) → Falls path → AreInPlace n path ls → (e : Placed) → IsIn e ls → is_begin e ≡ true → IsFrom ls e
begins-from [] n path falls h e i b = absurd i
begins-from (m ∷ ms) n path falls h e i b =
    by_place (λ j. begins-from ms m.number (path_behind m) (falls-behind m here inner).0 h.4 e j b) i
  where
    here : Falls m.path
    here = rw (h.0) falls

    inner : innermost m.path < m.number
    inner = rw (h.0) h.3

    by_place : (IsIn e ms → IsFrom ms e) → (m ≡ e) ⊎ IsIn e ms → IsFrom (m ∷ ms) e
    by_place later (inl same) =
        subst (λ (x : Placed). IsFrom (m ∷ ms) x) same
        (record { rest = ms; falls = here; inner = inner; places = h.4; among = λ k j. inr j; same = refl })
    by_place later (inr j) =
        let from = later j in
        let less : m.number < e.number = (above ms m.number (path_behind m) h.4 e j).2 b in
        record {
          rest = from.rest;
          falls = from.falls;
          inner = from.inner;
          places = from.places;
          among = λ k j. inr (from.among k j);
          same = apart m e ms here inner less ∙ from.same;
        }

-- A LINE OF A COMPONENT that is read without a fault, before the lines behind it.
pub record IsRead (all : List Placed) (b : ℕ) (l : Placed) (ls : List Placed) (c : Parts) (frames : List Frame) : Type 0 where
  pub among : IsIn l all
  pub falls : Falls l.path
  pub inner : innermost l.path < l.number
  pub places : AreInPlace l.number (path_behind l) ls
  pub within : part_in l.path ≡ Some b
  pub content : l.content ≡ Some c
  pub sound : fault_on (named c) c frames ≡ None

-- a property of the component itself, where these are open
abbrev pub is_property : ℕ → List Open → Name → Bool
is_property b path n = not (same_name n name.Begin || same_name n name.End) && (innermost path == b)

-- WHAT HOLDS of the component, given the lines behind, of those within it, and of what is gathered.
pub record IsHeld (all : List Placed) (b : ℕ) (Own : List Placed → Frame → Type 0) (Inner : Builder → Type 0) (Holds : ParsedFileSeen → Type 0) : Type 0 where
  pub begins : (ls : List Placed) (f : Frame) → Own ls f ⊎ Inner f.builder → (c : Component) → Inner (builder_at [] [] (context_in (context_at f.builder) c))
  pub joins : (ls : List Placed) (f : Frame) (i : Builder) → Own ls f → Own ls (record f { builder = joined f.builder i })
  pub joins_inner : (g i : Builder) → Inner g → Inner (joined g i)
  pub notes : (l : Placed) (ls : List Placed) (c : Parts) (f g : Frame) (gs : List Frame) → IsRead all b l ls c (f ∷ g ∷ gs) →
      is_property b l.path (named c) ≡ true → Own (l ∷ ls) f → Own ls (record f { builder = builder_note (named c) c f.builder })
  pub notes_inner : (n : Name) (c : Parts) (g : Builder) → Inner g → Inner (builder_note n c g)
  pub passes : (l : Placed) (ls : List Placed) (c : Parts) (f : Frame) → l.content ≡ Some c → is_property b l.path (named c) ≡ false → Own (l ∷ ls) f → Own ls f
  pub gathers : (l : Placed) (ls : List Placed) (c : Parts) (f g : Frame) (gs : List Frame) (had : ParsedFileSeen) → IsRead all b l ls c (f ∷ g ∷ gs) →
      (innermost l.path == b) ≡ true → Own (l ∷ ls) f → Holds had → Holds (and_line l.number (passing (named c) c (f ∷ g ∷ gs)) had)
  pub gathers_inner : (number : ℕ) (n : Name) (c : Parts) (f g : Frame) (gs : List Frame) (had : ParsedFileSeen) → Inner f.builder → Holds had →
      Holds (and_line number (passing n c (f ∷ g ∷ gs)) had)

abbrev pub IsFilled : List Frame → Type 0
IsFilled [] = ⊥
IsFilled (f ∷ fs) = Unit {0}

-- what is open within the component
abbrev Over : ℕ → (Frame → Type 0) → (Builder → Type 0) → List Open → List Frame → Type 0
Over b Own Inner [] frames = ⊥
Over b Own Inner (c ∷ cs) [] = ⊥
Over b Own Inner (c ∷ cs) (f ∷ fs) =
    IsFilled fs × ((c.begun == b) ≡ true → Own f) × ((c.begun == b) ≡ false → Inner f.builder × Over b Own Inner cs fs)

module _ (b : ℕ) (Own : Frame → Type 0) (Inner : Builder → Type 0) where
  moved : (Next : Frame → Type 0) (path : List Open) (frames : List Frame) → ((f : Frame) → Own f → Next f) → Over b Own Inner path frames →
      Over b Next Inner path frames
  moved Next [] frames pass over = over
  moved Next (c ∷ cs) [] pass over = over
  moved Next (c ∷ cs) (f ∷ fs) pass over = (over.0, λ t. pass f (over.1 t), λ t. ((over.2 t).0, moved Next cs fs pass (over.2 t).1))

  top : (path : List Open) (f : Frame) (fs : List Frame) → Over b Own Inner path (f ∷ fs) → Own f ⊎ Inner f.builder
  top [] f fs over = absurd over
  top (c ∷ cs) f fs over = by_test (c.begun == b) refl
    where
      by_test : (t : Bool) → (c.begun == b) ≡ t → Own f ⊎ Inner f.builder
      by_test true t = inl (over.1 t)
      by_test false t = inr (over.2 t).0

module _ {all : List Placed} {b : ℕ} {Own : List Placed → Frame → Type 0} {Inner : Builder → Type 0} {Holds : ParsedFileSeen → Type 0}
    (is : IsHeld all b Own Inner Holds) where
  module _ (l : Placed) (ls : List Placed) where
    over-by : (number : ℕ) (c : Parts) (path : List Open) (frames : List Frame) (n : Name) → Over b (Own (l ∷ ls)) Inner path frames →
        (same_name n name.End && (innermost path == b)) ≡ false → (number == b) ≡ false →
        (is_property b path n ≡ false → (f : Frame) → Own (l ∷ ls) f → Own ls f) →
        (is_property b path n ≡ true → (f g : Frame) (gs : List Frame) → frames ≡ f ∷ g ∷ gs → Own (l ∷ ls) f →
        Own ls (record f { builder = builder_note n c f.builder })) →
        Over b (Own ls) Inner
        (cond (same_name n name.Begin) (record { name = map upper c.value; begun = number } ∷ path) (cond (same_name n name.End) (drop 1 path) path))
        (behind number n c frames)
    over-by number c [] frames n over e ne pass note = absurd over
    over-by number c (o ∷ os) [] n over e ne pass note = absurd over
    over-by number c (o ∷ os) (f ∷ []) n over e ne pass note = absurd over.0
    over-by number c (o ∷ os) (f ∷ g ∷ gs) name.Begin over e ne pass note =
        let inner = is.begins (l ∷ ls) f (top b (Own (l ∷ ls)) Inner (o ∷ os) f (g ∷ gs) over) (component_of (map upper c.value)) in
        (tt, λ t. never-both (number == b) t ne, λ t. (inner, moved b (Own (l ∷ ls)) Inner (Own ls) (o ∷ os) (f ∷ g ∷ gs) (pass refl) over))
    over-by number c (o ∷ []) (f ∷ g ∷ gs) name.End over e ne pass note = absurd (over.2 e).1
    over-by number c (o ∷ p ∷ ps) (f ∷ g ∷ gs) name.End over e ne pass note =
        let outer = moved b (Own (l ∷ ls)) Inner (Own ls) (p ∷ ps) (g ∷ gs) (pass refl) (over.2 e).1 in
        (outer.0, λ t. is.joins ls g f.builder (outer.1 t), λ t. (is.joins_inner g.builder f.builder (outer.2 t).0, (outer.2 t).1))
    over-by number c (o ∷ os) (f ∷ g ∷ gs) n over e ne pass note = (
      over.0,
      λ t. note t f g gs refl (over.1 t),
      λ t. (is.notes_inner n c f.builder (over.2 t).0, moved b (Own (l ∷ ls)) Inner (Own ls) os (g ∷ gs) (pass t) (over.2 t).1),
    )

    over-behind : (c : Parts) (frames : List Frame) → IsRead all b l ls c frames → Over b (Own (l ∷ ls)) Inner l.path frames →
        (is_end l && (innermost l.path == b)) ≡ false → Over b (Own ls) Inner (path_behind l) (behind l.number (named c) c frames)
    unfolding name_on
    over-behind c frames read over e =
        let bounds = part-bounds l.path b read.falls read.within in
        let other : (l.number == b) ≡ false = ne_eqb l.number b (λ same. omega (arith, same, bounds.1, read.inner)) in
        rw (read.content)
        (over-by l.number c l.path frames (named c) over (rw (read.content) at e) other (λ t f. is.passes l ls c f (read.content) t)
        (λ t f g gs same. is.notes l ls c f g gs (subst (IsRead all b l ls c) same read) t))

    gathers-by : (c : Parts) (path : List Open) (frames : List Frame) (had : ParsedFileSeen) → l.path ≡ path → IsRead all b l ls c frames →
        Over b (Own (l ∷ ls)) Inner path frames → Holds had → Holds (and_line l.number (passing (named c) c frames) had)
    gathers-by c [] frames had same read over held = absurd over
    gathers-by c (o ∷ os) [] had same read over held = absurd over
    gathers-by c (o ∷ os) (f ∷ []) had same read over held = absurd over.0
    gathers-by c (o ∷ os) (f ∷ g ∷ gs) had same read over held = by_test (o.begun == b) refl
      where
        by_test : (t : Bool) → (o.begun == b) ≡ t → Holds (and_line l.number (passing (named c) c (f ∷ g ∷ gs)) had)
        by_test true t = is.gathers l ls c f g gs had read (ap (λ path. innermost path == b) same ∙ t) (over.1 t) held
        by_test false t = is.gathers_inner l.number (named c) c f g gs had (over.2 t).0 held

  abbrev Keeps : List Placed → Type 0
  Keeps ls =
      (n : ℕ) (path : List Open) (frames last : List Frame) (had more : ParsedFileSeen) → Falls path → AreInPlace n path ls → part_in path ≡ Some b →
      ((l : Placed) → IsIn l ls → IsIn l all) → Over b (Own ls) Inner path frames → Holds had →
      read_behind (Reads frames had) (filter (is_within b) ls) ≡ Reads last more → Holds more

  one-line : (l : Placed) (ls : List Placed) → Keeps ls → (frames last : List Frame) (had more : ParsedFileSeen) → Falls l.path →
      innermost l.path < l.number → AreInPlace l.number (path_behind l) ls → part_in l.path ≡ Some b → ((m : Placed) → IsIn m (l ∷ ls) → IsIn m all) →
      Over b (Own (l ∷ ls)) Inner l.path frames → Holds had →
      read_behind (read_on l.number l.content (Reads frames had)) (filter (is_within b) ls) ≡ Reads last more → Holds more
  one-line l ls again frames last had more falls inner h p lines over held e = by_content l.content refl e
    where
      by_end : (c : Parts) → IsRead all b l ls c frames → (t : Bool) → (is_end l && (innermost l.path == b)) ≡ t →
          read_behind (Reads (behind l.number (named c) c frames) (and_line l.number (passing (named c) c frames) had)) (filter (is_within b) ls)
          ≡ Reads last more → Holds more
      by_end c read true t e =
          let none : filter (is_within b) ls ≡ [] = no-more-within l ls b falls inner h p t in
          let left : Reads (behind l.number (named c) c frames) (and_line l.number (passing (named c) c frames) had) ≡ Reads last more = rw none at e in
          subst Holds (reads-are (behind l.number (named c) c frames) last (and_line l.number (passing (named c) c frames) had) more left)
          (gathers-by l ls c l.path frames had refl read over held)
      by_end c read false t e =
          again l.number (path_behind l) (behind l.number (named c) c frames) last (and_line l.number (passing (named c) c frames) had) more
          (falls-behind l falls inner).0 h (behind-inner l b p t) (λ m i. lines m (inr i)) (over-behind l ls c frames read over t)
          (gathers-by l ls c l.path frames had refl read over held) e

      by_fault : (c : Parts) → l.content ≡ Some c → (o : Option FaultKind) → fault_on (named c) c frames ≡ o →
          read_behind (unless_faulty l.number o (Reads (behind l.number (named c) c frames) (and_line l.number (passing (named c) c frames) had)))
          (filter (is_within b) ls) ≡ Reads last more → Holds more
      by_fault c at None sound e =
          by_end c (record { among = lines l (inl refl); falls = falls; inner = inner; places = h; within = p; content = at; sound = sound })
          (is_end l && (innermost l.path == b)) refl e
      by_fault c at (Some kind) sound e =
          let broken = sym (broken-stays (filter (is_within b) ls) (record { line = l.number; kind = kind })) ∙ e in cc

      by_content : (o : Option Parts) → l.content ≡ o → read_behind (read_on l.number o (Reads frames had)) (filter (is_within b) ls) ≡ Reads last more →
          Holds more
      by_content None at e = let broken = sym (broken-stays (filter (is_within b) ls) (record { line = l.number; kind = BadLine })) ∙ e in cc
      by_content (Some c) at e = by_fault c at (fault_on (named c) c frames) refl e

  held_within : (ls : List Placed) → Keeps ls
  held_within [] n path frames last had more falls h p lines over held e = subst Holds (reads-are frames last had more e) held
  held_within (l ∷ ls) n path frames last had more falls h p lines over held e =
      let at : part_in l.path ≡ Some b = rw (h.0) p in
      let inner : is_within b l ≡ true = part-open l.path b at in
      let left : read_behind (read_on l.number l.content (Reads frames had)) (filter (is_within b) ls) ≡ Reads last more = rw inner at e in
      let under : Over b (Own (l ∷ ls)) Inner l.path frames = subst (λ (q : List Open). Over b (Own (l ∷ ls)) Inner q frames) (sym h.0) over in
      one-line l ls (held_within ls) frames last had more (rw (h.0) falls) (rw (h.0) h.3) h.4 at lines under held left

-- as it begins, in a calendar or outside
abbrev pub begun_frame : ℕ → Parts → List Open → Frame
begun_frame number c path = record {
  component = component_of (map upper c.value);
  calendar = calendar_in number (frames_around path);
  builder = builder_at [] [] (context_in (context_on (frames_around path)) (component_of (map upper c.value)));
}

never-same : {Y : Type 0} (n : ℕ) → (n == n) ≡ false → Y
never-same n e = let yes = eq-eqb n n refl in cc

first-over : (Own : Frame → Type 0) (Inner : Builder → Type 0) (path : List Open) (number : ℕ) (c : Parts) (word : List ℕ) → Own (begun_frame number c path) →
    Over number Own Inner (record { name = word; begun = number } ∷ path) (behind number name.Begin c (frames_around path))
first-over Own Inner [] number c word own = (tt, λ t. own, λ t. never-same number t)
first-over Own Inner (o ∷ os) number c word own = (tt, λ t. own, λ t. never-same number t)

passes-begin : (path : List Open) (number : ℕ) (c : Parts) → and_line number (passing name.Begin c (frames_around path)) nothing_parsed ≡ nothing_parsed
passes-begin [] number c = refl
passes-begin (o ∷ os) number c = refl

-- WHAT IS GATHERED OF AN EVENT OR A TIME ZONE holds what its lines leave as it is.
pub held_block : {Own : List Placed → Frame → Type 0} {Inner : Builder → Type 0} {Holds : ParsedFileSeen → Type 0} (ls : List Placed) (e : Placed) →
    IsHeld ls e.number Own Inner Holds → AreInPlace 0 [] ls → IsIn e ls → begins_part e ≡ true →
    ((from : IsFrom ls e) (c : Parts) → e.content ≡ Some c → Own from.rest (begun_frame e.number c e.path)) → Holds nothing_parsed →
    (read : ParsedFileSeen) → (component_seen ls e).read ≡ Ok read → Holds read
held_block {Own} {Inner} {Holds} ls e is h i begins first none read r =
    by_read (block_read (e ∷ from.rest) e) refl (sym (ap (λ seen. seen.read) from.same) ∙ r)
  where
    both : (is_begin e ≡ true) × (is_part e.path (component e) ≡ true)
    both = two-of (is_begin e) (is_part e.path (component e)) (sym (begins-by e) ∙ begins)

    from : IsFrom ls e
    from = begins-from ls 0 [] tt h e i both.0

    begun : path_behind e ≡ inside e
    begun = rw (both.0) refl

    by_fault : (c : Parts) → e.content ≡ Some c → (o : Option FaultKind) → (last : List Frame) →
        read_behind (unless_faulty e.number o (Reads (behind e.number name.Begin c (frames_around e.path))
        (and_line e.number (passing name.Begin c (frames_around e.path)) nothing_parsed))) (filter (is_within e.number) from.rest) ≡ Reads last read
        → Holds read
    by_fault c at (Some kind) last left =
        let broken = sym (broken-stays (filter (is_within e.number) from.rest) (record { line = e.number; kind = kind })) ∙ left in cc
    by_fault c at None last left =
        held_within is from.rest e.number (path_behind e) (behind e.number name.Begin c (frames_around e.path)) last
        (and_line e.number (passing name.Begin c (frames_around e.path)) nothing_parsed) read (falls-behind e from.falls from.inner).0 from.places
        (behind-begun e both.0 both.1 (begun-outside e begins)) from.among
        (subst (λ (q : List Open). Over e.number (Own from.rest) Inner q (behind e.number name.Begin c (frames_around e.path))) (sym begun)
        (first-over (Own from.rest) Inner e.path e.number c (component e) (first from c at)))
        (subst Holds (sym (passes-begin e.path e.number c)) none) left

    by_content : (o : Option Parts) → e.content ≡ o → (last : List Frame) →
        read_behind (read_on e.number o (Reads (frames_around e.path) nothing_parsed)) (filter (is_within e.number) from.rest) ≡ Reads last read → Holds read
    by_content None at last left =
        let broken = sym (broken-stays (filter (is_within e.number) from.rest) (record { line = e.number; kind = BadLine })) ∙ left in cc
    by_content (Some c) at last left =
        by_fault c at (fault_on name.Begin c (frames_around e.path)) last (rw (begins-by-name e.content both.0 c at) at left)

    by_read : (r : LinesRead) → block_read (e ∷ from.rest) e ≡ r → gathered_in r ≡ Ok read → Holds read
    by_read (Broken fault) is r = cc
    by_read (Reads last more) is r =
        let same : more ≡ read = cc in
        by_content e.content refl last (sym (block-first e from.rest both.0 from.places) ∙ is ∙ ap (Reads last) same)
