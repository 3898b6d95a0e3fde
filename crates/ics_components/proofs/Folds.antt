-- Lines in their places are read event by event and time zone by time zone: what is gathered is concatenated, and the first fault is that of the first
-- component, or line of none, that has one.
use Rattle.std.proofs.Common.{◌≡◌, ℕ, suc, ◌<◌, ◌≤◌, Bool, true, false, ◌&&◌, ◌||◌, not, ◌==◌, List, [], ◌∷◌, drop, filter, refl, sym, ap, ◌∙◌, arith, cond}
use Rattle.std.proofs.Common.{Option, Some, None, subst, map}
use Rattle.std.specs.Prelude.{Result, Ok, Err, codes, find, is_none, length, option_map, if◌then◌else◌}
use Rattle.std.specs.List.{list_all}
use Rattle.std.specs.Option.{option_or}
use Rattle.std.specs.Str.{bytes_eq}
use Rattle.std.proofs.Math.Bool.{and-false}
use Rattle.std.proofs.lemmas.Bool.{eq-eqb, ne_eqb}
use Rattle.std.proofs.lemmas.List.{append-nil}
use Rattle.std.proofs.lemmas.Slice.Eq.{bytes_eq-Decides}
use Rattle.ics_text.specs.Bytes.{upper}
use Rattle.ics_text.specs.ContentLines.{Parts}
use Rattle.ics_components.specs.declared.builder.Builder.{Builder}
use Rattle.ics_components.specs.declared.component.Context.{Context}
use Rattle.ics_components.specs.declared.component.Context.TheVariants as context
use Rattle.ics_components.specs.declared.fault.Fault.{Fault}
use Rattle.ics_components.specs.declared.fault.FaultKind.{FaultKind}
use Rattle.ics_components.specs.declared.fault.FaultKind.TheVariants.{BadLine, BadNesting, TooDeep}
use Rattle.ics_components.specs.declared.frame.Frame.{Frame}
use Rattle.ics_components.specs.declared.name.Name.{Name}
use Rattle.ics_components.specs.declared.name.Name.TheVariants as name
use Rattle.ics_components.specs.declared.parsed_file.ClosedComponent.TheVariants as ended
use Rattle.ics_components.specs.Builders.{builder_at}
use Rattle.ics_components.specs.Components.{component_of, context_in, is_calendar_context, is_event_context, is_observance_context, is_zone_context}
use Rattle.ics_components.specs.EventLines.{is_well_nested, nests, path_at_end}
use Rattle.ics_components.specs.Faults.{kinds, stands}
use Rattle.ics_components.specs.FirstFault.{no_open}
use Rattle.ics_components.specs.Lines.{behind, builder_note, fault_in, fault_on, joined, line_result, passing}
use Rattle.ics_components.specs.Names.{same_name}
use Rattle.ics_components.specs.ParsedFileSeen.{ParsedFileSeen}
use Rattle.ics_components.specs.ParsedFiles.{and_line, nothing_parsed}
use Rattle.ics_components.specs.PartFaults.{is_within}
use Rattle.ics_components.specs.Parted.{AreInPlace, Broken, LinesRead, Reads, begins_part, block_of, block_read, fault_there, frames_around, gathered_in}
use Rattle.ics_components.specs.Parted.{is_part, kinds_there, part_in, read_behind, read_on, unless_faulty}
use Rattle.ics_components.specs.Pass.{bottom, unless}
use Rattle.ics_components.specs.PlacedLines.{Open, Placed, calendar_of, closes, component, context_of, innermost, is_begin, is_end, name_on, named, path_behind}
use Rattle.ics_components.proofs.Blocks.{and_parsed, and_read, broken-stays, read_from}
use Rattle.ics_components.proofs.NameLemmas.{context-tests}
use Rattle.ics_components.proofs.Order.{Falls, falls-behind}
use Rattle.ics_components.proofs.PartPaths.{begins-by, closed-none, closed-part, deep-no-calendar, none-begins, part-open}
use Rattle.ics_components.proofs.PartsLemmas.{behind-begun, behind-inner, behind-none, elsewhere, no-lines, own-first}
use Rattle.ics_components.proofs.Paths.{in_calendar_by}
use Rattle.ics_components.proofs.Returns.{ReturnsTo, block_returns}
use Rattle.ics_components.proofs.Table.{context-at, frame_of, least-same}

-- WHAT IS READ of an event or a time zone, by the line on which it begins, and of a line of none; and of several, one after the other.
abbrev pub then_read : Result ParsedFileSeen Fault → Result ParsedFileSeen Fault → Result ParsedFileSeen Fault
then_read (Err fault) later = Err fault
then_read (Ok had) (Err fault) = Err fault
then_read (Ok had) (Ok more) = Ok (and_parsed had more)

abbrev pub item_read : List Placed → Placed → Result ParsedFileSeen Fault
item_read lines l =
    if begins_part l then gathered_in (block_read lines l)
    else if is_none (part_in l.path) then unless (fault_there l) nothing_parsed
    else Ok nothing_parsed

abbrev pub items_read : List Placed → List Placed → Result ParsedFileSeen Fault
items_read lines [] = Ok nothing_parsed
items_read lines (l ∷ ls) = then_read (item_read lines l) (items_read lines ls)

abbrev pub as_read : Result ParsedFileSeen Fault → LinesRead
as_read (Ok had) = Reads (bottom ∷ []) had
as_read (Err fault) = Broken fault

-- each of the lines that are left
abbrev pub each_read : List Placed → Result ParsedFileSeen Fault
each_read [] = Ok nothing_parsed
each_read (l ∷ ls) = then_read (item_read (l ∷ ls) l) (each_read ls)

then-nothing : (later : Result ParsedFileSeen Fault) → then_read (Ok nothing_parsed) later ≡ later
then-nothing (Ok had) = refl
then-nothing (Err fault) = refl

two-of : (a b : Bool) → (a && b) ≡ true → (a ≡ true) × (b ≡ true)
two-of a b e = (grind (arith, e), grind (arith, e))

-- OUTSIDE OF EVENTS AND TIME ZONES nothing is kept of the components that are open but what they are.
abbrev pub is_plain : Context → Bool
is_plain q = not (is_event_context q || (is_zone_context q || is_observance_context q))

plain-tests : (c e z s v y o : Bool) → not (v || (y || o)) ≡ true → (c && (e || z)) ≡ false → not ((c && e) || ((c && z) || (y && s))) ≡ true
plain-tests c e z s v y o p h = grind (arith, p, h)

plain-in : (q : Context) (w : List ℕ) → is_plain q ≡ true → (is_calendar_context q && (bytes_eq w (codes "VEVENT") || bytes_eq w (codes "VTIMEZONE"))) ≡ false →
    is_plain (context_in q (component_of w)) ≡ true
plain-in q w p h =
    let t = context-tests q w in
    rw (t.0, t.1, t.2)
    (plain-tests (is_calendar_context q) (bytes_eq w (codes "VEVENT")) (bytes_eq w (codes "VTIMEZONE"))
    (bytes_eq w (codes "STANDARD") || bytes_eq w (codes "DAYLIGHT")) (is_event_context q) (is_zone_context q) (is_observance_context q) p h)

neither-there : (o : Option ℕ) (t : Bool) (b : ℕ) → option_or o (cond t (Some b) None) ≡ None → (o ≡ None) × (t ≡ false)
neither-there (Some k) t b h = cc
neither-there None true b h = cc
neither-there None false b h = (refl, refl)

pub plain-there : (path : List Open) → part_in path ≡ None → is_plain (context_of path) ≡ true
plain-there [] p = refl
plain-there (c ∷ []) p = plain-in context.Outside c.name refl refl
plain-there (c ∷ d ∷ ds) p =
    let two = neither-there (part_in (d ∷ ds)) (is_part (d ∷ ds) c.name) c.begun p in
    plain-in (context_of (d ∷ ds)) c.name (plain-there (d ∷ ds) two.0) two.1

-- the components that are open, each without what is collected of it
abbrev pub frames_at : List Open → List Frame
frames_at [] = bottom ∷ []
frames_at (c ∷ cs) = frame_of [] (c ∷ cs) [] ∷ frames_at cs

length-at : (path : List Open) → length (frames_at path) ≡ suc (length path)
length-at [] = refl
length-at (c ∷ cs) = ap suc (length-at cs)

pub steady : (q : Context) → is_plain q ≡ true → (b : Builder) → joined (builder_at [] [] q) b ≡ builder_at [] [] q
steady context.Outside p b = refl
steady context.Calendar p b = refl
steady context.Elsewhere p b = refl
steady _ p b = cc

unnoted : (q : Context) → is_plain q ≡ true → (n : Name) (c : Parts) → builder_note n c (builder_at [] [] q) ≡ builder_at [] [] q
unnoted context.Outside p n c = refl
unnoted context.Calendar p n c = refl
unnoted context.Elsewhere p n c = refl
unnoted _ p n c = cc

pub nothing-passes : (path : List Open) → is_plain (context_of path) ≡ true → (n : Name) (c : Parts) →
    passing n c (frames_at path) ≡ line_result ended.Nothing None
nothing-passes [] p name.Begin c = refl
nothing-passes [] p name.End c = refl
nothing-passes [] p _ c = refl
nothing-passes (o ∷ os) p n c = by_context (context_of (o ∷ os)) p n
  where
    by_context : (q : Context) → is_plain q ≡ true → (n : Name) →
        passing n c (record { component = component_of o.name; calendar = calendar_of (o ∷ os); builder = builder_at [] [] q } ∷ frames_at os)
        ≡ line_result ended.Nothing None
    by_context context.Outside p name.Begin = refl
    by_context context.Outside p name.End = refl
    by_context context.Outside p _ = refl
    by_context context.Calendar p name.Begin = refl
    by_context context.Calendar p name.End = refl
    by_context context.Calendar p _ = refl
    by_context context.Elsewhere p name.Begin = refl
    by_context context.Elsewhere p name.End = refl
    by_context context.Elsewhere p _ = refl
    by_context _ p n = cc

pub nothing-more : (number : ℕ) (had : ParsedFileSeen) → and_line number (line_result ended.Nothing None) had ≡ had
nothing-more number had = simp append-nil

-- what is open behind a line of that name
frames-by : (number : ℕ) (c : Parts) (path : List Open) → part_in path ≡ None → (n : Name) →
    behind number n c (frames_at path)
    ≡ frames_at (cond (same_name n name.Begin) (record { name = map upper c.value; begun = number } ∷ path)
    (cond (same_name n name.End) (drop 1 path) path))
frames-by number c [] p name.Begin = refl
frames-by number c (o ∷ []) p name.Begin = rw (context-at [] [] o []) refl
frames-by number c (o ∷ q ∷ qs) p name.Begin = rw (context-at [] [] o (q ∷ qs)) refl
frames-by number c [] p name.End = refl
frames-by number c (o ∷ []) p name.End = refl
frames-by number c (o ∷ q ∷ qs) p name.End =
    ap (λ s. record (frame_of [] (q ∷ qs) []) { builder = s } ∷ frames_at qs)
    (steady (context_of (q ∷ qs)) (plain-there (q ∷ qs) (closed-none (o ∷ q ∷ qs) p)) (builder_at [] [] (context_of (o ∷ q ∷ qs))))
frames-by number c [] p n = refl
frames-by number c (o ∷ os) p n =
    ap (λ s. record (frame_of [] (o ∷ os) []) { builder = s } ∷ frames_at os) (unnoted (context_of (o ∷ os)) (plain-there (o ∷ os) p) n c)

-- A LINE OF NO EVENT AND NO TIME ZONE. Of the faults that stand on a line that nests, there can be three.
module _ (l : Placed) (out : part_in l.path ≡ None) where
  least-there : stands BadNesting [] l ≡ false → stands TooDeep [] l ≡ false →
      find (λ kind. stands kind [] l) kinds ≡ find (λ kind. stands kind [] l) kinds_there
  least-there n d = by_context (context_of l.path) refl (plain-there l.path out)
    where
      by_context : (q : Context) → context_of l.path ≡ q → is_plain q ≡ true →
          find (λ kind. stands kind [] l) kinds ≡ find (λ kind. stands kind [] l) kinds_there
      by_context context.Outside e p = rw (e, n, d, and-false (is_end l && closes l.path (component l))) refl
      by_context context.Calendar e p = rw (e, n, d, and-false (is_end l && closes l.path (component l))) refl
      by_context context.Elsewhere e p = rw (e, n, d, and-false (is_end l && closes l.path (component l))) refl
      by_context _ e p = cc

  fault-at : (c : Parts) (path : List Open) →
      fault_on (named c) c (frames_at path) ≡ find (λ kind. stands kind [] (record { number = l.number; content = Some c; path = path })) kinds
  fault-at c [] = sym (least-same [] [] l.number c [] (λ e. refl))
  fault-at c (o ∷ os) =
      ap (fault_in (named c) c (frame_of [] (o ∷ os) [])) (length-at os) ∙ sym (least-same [] (o ∷ os) l.number c [] (λ e. refl))

  pub fault-same : (c : Parts) → l.content ≡ Some c → stands BadNesting [] l ≡ false → stands TooDeep [] l ≡ false →
      fault_on (named c) c (frames_at l.path) ≡ find (λ kind. stands kind [] l) kinds_there
  fault-same c e n d =
      fault-at c l.path
      ∙ ap (λ (k : Placed). find (λ kind. stands kind [] k) kinds) (λ i. record { number = l.number; content = sym e i; path = l.path })
      ∙ least-there n d

  pub frames-behind : (c : Parts) → l.content ≡ Some c → behind l.number (named c) c (frames_at l.path) ≡ frames_at (path_behind l)
  unfolding name_on
  frames-behind c e = rw e (frames-by l.number c l.path out (named c))

-- a component of which the lines are read by themselves
pub around : (path : List Open) (word : List ℕ) → is_part path word ≡ true → frames_around path ≡ frames_at path
around [] word e = refl
around (c ∷ []) word e =
    let calendar = sym (in_calendar_by c) ∙ (two-of (is_calendar_context (context_of (c ∷ []))) _ e).0 in
    let same = (bytes_eq-Decides c.name (codes "VCALENDAR")).0 calendar in
    rw same refl
around (c ∷ d ∷ ds) word e =
    let calendar = (two-of (is_calendar_context (context_of (c ∷ d ∷ ds))) _ e).0 in let no = deep-no-calendar c d ds in cc

-- WITHIN A COMPONENT: what is open outside of it.
abbrev outer_of : ℕ → List Open → List Open
outer_of b [] = []
outer_of b (c ∷ cs) = cond (c.begun == b) cs (outer_of b cs)

some-is : (k m : ℕ) → Some k ≡ Some m → k ≡ m
some-is k m e = cc

pub part-bounds : (path : List Open) (b : ℕ) → Falls path → part_in path ≡ Some b → (0 < b) × (b ≤ innermost path)
part-bounds [] b f p = cc
part-bounds (c ∷ cs) b f p = by_rest (part-bounds cs b f.1) (part_in cs) refl
  where
    by_rest : (part_in cs ≡ Some b → (0 < b) × (b ≤ innermost cs)) → (o : Option ℕ) → part_in cs ≡ o → (0 < b) × (b ≤ c.begun)
    by_rest inner (Some k) e =
        let same : k ≡ b = some-is k b (sym (ap (λ o. option_or o (cond (is_part cs c.name) (Some c.begun) None)) e) ∙ p) in
        let again = inner (e ∙ ap Some same) in
        (again.0, omega (arith, again.1, f.0))
    by_rest inner None e = by_name (is_part cs c.name) (sym (ap (λ o. option_or o (cond (is_part cs c.name) (Some c.begun) None)) e) ∙ p)
      where
        by_name : (t : Bool) → cond t (Some c.begun) None ≡ Some b → (0 < b) × (b ≤ c.begun)
        by_name true h = let same = some-is c.begun b h in (omega (arith, same, f.0), omega (arith, same))
        by_name false h = cc

outer-behind : (l : Placed) (b : ℕ) → b < l.number → (is_end l && (innermost l.path == b)) ≡ false → outer_of b (path_behind l) ≡ outer_of b l.path
outer-behind l b less e = by_kind (is_begin l) (is_end l) e
  where
    by_path : (path : List Open) → (innermost path == b) ≡ false → outer_of b (drop 1 path) ≡ outer_of b path
    by_path [] e = refl
    by_path (c ∷ cs) e = rw e refl

    by_kind : (t d : Bool) → (d && (innermost l.path == b)) ≡ false →
        outer_of b (cond t (record { name = component l; begun = l.number } ∷ l.path) (cond d (drop 1 l.path) l.path)) ≡ outer_of b l.path
    by_kind true d e = rw (ne_eqb l.number b (λ same. omega (arith, same, less))) refl
    by_kind false true e = by_path l.path e
    by_kind false false e = refl

outer-closed : (path : List Open) (b : ℕ) → (innermost path == b) ≡ true → outer_of b path ≡ drop 1 path
outer-closed [] b e = refl
outer-closed (c ∷ cs) b e = rw e refl

-- THE FOLD, outside of all events and time zones and within one.
abbrev Outside : List Placed → Type 0
Outside ls =
    (n : ℕ) (path : List Open) → Falls path → AreInPlace n path ls → path_at_end path ls ≡ [] → list_all nests ls ≡ true → part_in path ≡ None →
    read_behind (Reads (frames_at path) nothing_parsed) ls ≡ as_read (each_read ls)

abbrev Within : List Placed → Type 0
Within ls =
    (n : ℕ) (path : List Open) (b : ℕ) (read : LinesRead) → Falls path → AreInPlace n path ls → path_at_end path ls ≡ [] → list_all nests ls ≡ true →
    part_in path ≡ Some b → ReturnsTo (frames_at (outer_of b path)) (read_behind read (filter (is_within b) ls)) →
    read_behind read ls ≡ as_read (then_read (gathered_in (read_behind read (filter (is_within b) ls))) (each_read ls))

pub neither-of : (a b : Bool) → not (a || b) ≡ true → (a ≡ false) × (b ≡ false)
neither-of a b e = (grind (arith, e), grind (arith, e))

then-all : (had : ParsedFileSeen) (later : Result ParsedFileSeen Fault) → and_read had (as_read later) ≡ as_read (then_read (Ok had) later)
then-all had (Ok more) = refl
then-all had (Err fault) = refl

end-no-begin : (n : Name) → same_name n name.End ≡ true → same_name n name.Begin ≡ false
end-no-begin name.End e = refl
end-no-begin _ e = cc

-- a component that ends here has no later lines, and one that begins here has those within it
pub no-more-within : (l : Placed) (ls : List Placed) (b : ℕ) → Falls l.path → innermost l.path < l.number → AreInPlace l.number (path_behind l) ls →
    part_in l.path ≡ Some b → (is_end l && (innermost l.path == b)) ≡ true → filter (is_within b) ls ≡ []
no-more-within l ls b falls inner h p e =
    let ends = two-of (is_end l) (innermost l.path == b) e in
    let bounds = part-bounds l.path b falls p in
    let path : path_behind l ≡ drop 1 l.path = rw (end-no-begin (name_on l.content) ends.0, ends.0) refl in
    let out = closed-part l.path b falls p ends.1 in
    no-lines ls b (elsewhere ls b l.number (path_behind l) bounds.0 (omega (arith, bounds.1, inner)) (rw path out.1) h)

pub block-first : (l : Placed) (ls : List Placed) → is_begin l ≡ true → AreInPlace l.number (path_behind l) ls →
    block_read (l ∷ ls) l
    ≡ read_behind (read_on l.number l.content (Reads (frames_around l.path) nothing_parsed)) (filter (is_within l.number) ls)
block-first l ls begin h =
    let mine : innermost (path_behind l) ≡ l.number = rw begin refl in
    rw (eq-eqb l.number l.number refl, own-first ls l mine h) refl

module _ (l : Placed) (ls : List Placed) (outside : Outside ls) (within : Within ls) (falls : Falls l.path) (inner : innermost l.path < l.number)
    (h : AreInPlace l.number (path_behind l) ls) (end : path_at_end (path_behind l) ls ≡ []) (nest : nests l ≡ true) (nested : list_all nests ls ≡ true) where
  next : part_in (path_behind l) ≡ None → read_behind (Reads (frames_at (path_behind l)) nothing_parsed) ls ≡ as_read (each_read ls)
  next p = outside l.number (path_behind l) (falls-behind l falls inner).0 h end nested p

  -- within one
  line-within : (b : ℕ) (read : LinesRead) → part_in l.path ≡ Some b → ReturnsTo (frames_at (outer_of b l.path)) (read_behind read (filter (is_within b) ls)) →
      read_behind read ls ≡ as_read (then_read (gathered_in (read_behind read (filter (is_within b) ls))) (each_read ls))
  line-within b read p returns = by_end (is_end l && (innermost l.path == b)) refl
    where
      bounds : (0 < b) × (b ≤ innermost l.path)
      bounds = part-bounds l.path b falls p

      less : b < l.number
      less = omega (arith, bounds.1, inner)

      by_read : (r : LinesRead) → ReturnsTo (frames_at (path_behind l)) r → part_in (path_behind l) ≡ None →
          read_behind r ls ≡ as_read (then_read (gathered_in r) (each_read ls))
      by_read (Broken fault) returns p = broken-stays ls fault
      by_read (Reads frames had) returns p =
          ap (λ fs. read_behind (Reads fs had) ls) returns ∙ read_from ls (frames_at (path_behind l)) had ∙ ap (and_read had) (next p)
          ∙ then-all had (each_read ls)

      by_end : (t : Bool) → (is_end l && (innermost l.path == b)) ≡ t →
          read_behind read ls ≡ as_read (then_read (gathered_in (read_behind read (filter (is_within b) ls))) (each_read ls))
      by_end false e =
          within l.number (path_behind l) b read (falls-behind l falls inner).0 h end nested (behind-inner l b p e) (rw (outer-behind l b less e) returns)
      by_end true e =
          let ends = two-of (is_end l) (innermost l.path == b) e in
          let path : path_behind l ≡ drop 1 l.path = rw (end-no-begin (name_on l.content) ends.0, ends.0) refl in
          let out = closed-part l.path b falls p ends.1 in
          let none : filter (is_within b) ls ≡ [] = no-more-within l ls b falls inner h p e in
          let same : outer_of b l.path ≡ path_behind l = outer-closed l.path b ends.1 ∙ sym path in
          let back : ReturnsTo (frames_at (path_behind l)) read =
          subst (λ (ks : List Placed). ReturnsTo (frames_at (path_behind l)) (read_behind read ks)) none
          (subst (λ (q : List Open). ReturnsTo (frames_at q) (read_behind read (filter (is_within b) ls))) same returns) in
          rw none (by_read read back (ap part_in path ∙ out.0))

  -- its BEGIN line
  line-begun : begins_part l ≡ true → part_in l.path ≡ None →
      read_behind (read_on l.number l.content (Reads (frames_at l.path) nothing_parsed)) ls
      ≡ as_read (then_read (gathered_in (block_read (l ∷ ls) l)) (each_read ls))
  line-begun begins p =
      within l.number (path_behind l) l.number read (falls-behind l falls inner).0 h end nested (behind-begun l both.0 both.1 p) back
      ∙ ap (λ r. as_read (then_read (gathered_in r) (each_read ls))) (sym block)
    where
      both : (is_begin l ≡ true) × (is_part l.path (component l) ≡ true)
      both = two-of (is_begin l) (is_part l.path (component l)) (sym (begins-by l) ∙ begins)

      read : LinesRead
      read = read_on l.number l.content (Reads (frames_at l.path) nothing_parsed)

      mine : innermost (path_behind l) ≡ l.number
      mine = rw (both.0) refl

      lines : block_of (l ∷ ls) l ≡ l ∷ filter (is_within l.number) ls
      lines = rw (eq-eqb l.number l.number refl, own-first ls l mine h) refl

      block : block_read (l ∷ ls) l ≡ read_behind read (filter (is_within l.number) ls)
      block = ap (λ fs. read_behind (Reads fs nothing_parsed) (block_of (l ∷ ls) l)) (around l.path (component l) both.1)
          ∙ ap (read_behind (Reads (frames_at l.path) nothing_parsed)) lines

      outer : outer_of l.number (path_behind l) ≡ l.path
      outer = rw (both.0, eq-eqb l.number l.number refl) refl

      whole : ReturnsTo (frames_around l.path) (block_read (l ∷ ls) l)
      whole = block_returns l ls nothing_parsed both.0 falls inner h (ap no_open end)

      back : ReturnsTo (frames_at (outer_of l.number (path_behind l))) (read_behind read (filter (is_within l.number) ls))
      back =
          subst (λ (q : List Open). ReturnsTo (frames_at q) (read_behind read (filter (is_within l.number) ls))) (sym outer)
          (subst (λ (fs : List Frame). ReturnsTo fs (read_behind read (filter (is_within l.number) ls))) (around l.path (component l) both.1)
          (subst (λ (r : LinesRead). ReturnsTo (frames_around l.path) r) block whole))

  -- a line of none
  line-outside : begins_part l ≡ false → part_in l.path ≡ None →
      read_behind (read_on l.number l.content (Reads (frames_at l.path) nothing_parsed)) ls
      ≡ as_read (then_read (unless (fault_there l) nothing_parsed) (each_read ls))
  line-outside none p = by_content l.content refl
    where
      two : (stands BadNesting [] l ≡ false) × (stands TooDeep [] l ≡ false)
      two = neither-of (stands BadNesting [] l) (stands TooDeep [] l) nest

      by_find : (o : Option FaultKind) →
          read_behind (unless_faulty l.number o (Reads (frames_at (path_behind l)) nothing_parsed)) ls
          ≡ as_read (then_read (unless (option_map (λ kind. record { line = l.number; kind = kind }) o) nothing_parsed) (each_read ls))
      by_find None = next (behind-none l none p) ∙ ap as_read (sym (then-nothing (each_read ls)))
      by_find (Some kind) = broken-stays ls (record { line = l.number; kind = kind })

      by_content : (o : Option Parts) → l.content ≡ o →
          read_behind (read_on l.number o (Reads (frames_at l.path) nothing_parsed)) ls
          ≡ as_read (then_read (unless (fault_there l) nothing_parsed) (each_read ls))
      by_content None e = rw e (broken-stays ls (record { line = l.number; kind = BadLine }))
      by_content (Some c) e =
          rw (
            nothing-passes l.path (plain-there l.path p) (named c) c,
            nothing-more l.number nothing_parsed,
            frames-behind l p c e,
            fault-same l p c e two.0 two.1,
          ) (by_find (find (λ kind. stands kind [] l) kinds_there))

  line-free : part_in l.path ≡ None → read_behind (read_on l.number l.content (Reads (frames_at l.path) nothing_parsed)) ls ≡ as_read (each_read (l ∷ ls))
  line-free p = by_test (begins_part l) refl
    where
      by_test : (t : Bool) → begins_part l ≡ t →
          read_behind (read_on l.number l.content (Reads (frames_at l.path) nothing_parsed)) ls ≡ as_read (each_read (l ∷ ls))
      by_test true e = rw e (line-begun e p)
      by_test false e = rw (e, p) (line-outside e p)

closed-at-end : {X : Type 0} (path : List Open) (b : ℕ) → path ≡ [] → part_in path ≡ Some b → X
closed-at-end [] b e p = cc
closed-at-end (c ∷ cs) b e p = cc

module _ (l : Placed) (ls : List Placed) (later : Outside ls × Within ls) where
  outside-on : Outside (l ∷ ls)
  outside-on n path f h end nest p =
      let both = two-of (nests l) (list_all nests ls) nest in
      subst (λ (q : List Open). read_behind (Reads (frames_at q) nothing_parsed) (l ∷ ls) ≡ as_read (each_read (l ∷ ls))) (h.0)
      (line-free l ls later.0 later.1 (rw (h.0) f) (rw (h.0) h.3) h.4 end both.0 both.1 (rw (h.0) p))

  never : (t : Bool) → (t && false) ≡ false
  never t = grind arith

  within-on : Within (l ∷ ls)
  within-on n path b read f h end nest p returns =
      let both = two-of (nests l) (list_all nests ls) nest in
      let at : part_in l.path ≡ Some b = rw (h.0) p in
      let inside : is_within b l ≡ true = part-open l.path b at in
      let none : begins_part l ≡ false = begins-by l ∙ ap (λ t. is_begin l && t) (none-begins l.path b at (component l)) ∙ never (is_begin l) in
      let back : ReturnsTo (frames_at (outer_of b path)) (read_behind (read_on l.number l.content read) (filter (is_within b) ls)) = rw inside at returns in
      rw (inside, none, at, then-nothing (each_read ls))
      (line-within l ls later.0 later.1 (rw (h.0) f) (rw (h.0) h.3) h.4 end both.0 both.1 b (read_on l.number l.content read) at
      (subst (λ (q : List Open). ReturnsTo (frames_at (outer_of b q)) (read_behind (read_on l.number l.content read) (filter (is_within b) ls))) (sym h.0)
      back))

folds : (ls : List Placed) → Outside ls × Within ls
folds [] = (λ n path f h end nest p. rw end refl, λ n path b read f h end nest p returns. closed-at-end path b end p)
folds (l ∷ ls) = (outside-on l ls (folds ls), within-on l ls (folds ls))

-- LINES IN THEIR PLACES that nest well are read one component after the other.
pub no-path : (path : List Open) → no_open path ≡ true → path ≡ []
no-path [] e = refl
no-path (c ∷ cs) e = cc

pub each_folds : (ls : List Placed) → AreInPlace 0 [] ls → is_well_nested ls ≡ true →
    read_behind (Reads (bottom ∷ []) nothing_parsed) ls ≡ as_read (each_read ls)
each_folds ls h nested =
    let both = two-of (no_open (path_at_end [] ls)) (list_all nests ls) nested in
    (folds ls).0 0 [] tt h (no-path (path_at_end [] ls) both.0) both.1 refl
