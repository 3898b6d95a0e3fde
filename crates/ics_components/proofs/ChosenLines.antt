-- Whole components that are taken of lines in their places are read one after the other, each as among all lines, and their first fault is the first of
-- theirs.
use Rattle.std.proofs.Common.{◌≡◌, ℕ, ◌<◌, ◌≤◌, Bool, true, false, ◌&&◌, List, [], ◌∷◌, filter, refl, sym, ap, ◌∙◌, arith, cond}
use Rattle.std.proofs.Common.{Option, Some, None}
use Rattle.std.specs.Prelude.{Result, Ok, Err, is_none}
use Rattle.std.specs.List.{list_all}
use Rattle.std.specs.Option.{option_or}
use Rattle.std.proofs.lemmas.Bool.{ne_eqb}
use Rattle.ics_components.specs.declared.fault.Fault.{Fault}
use Rattle.ics_components.specs.declared.fault.FaultKind.TheVariants.{NotCalendar}
use Rattle.ics_components.specs.EventLines.{is_well_nested, nests, path_at_end}
use Rattle.ics_components.specs.FirstFault.{first_fault, no_open}
use Rattle.ics_components.specs.ParsedFileSeen.{ParsedFileSeen}
use Rattle.ics_components.specs.ParsedFiles.{nothing_parsed}
use Rattle.ics_components.specs.Parted.{AreInPlace, Reads, begins_part, block_of, block_read, fault_there, frames_around, gathered_in}
use Rattle.ics_components.specs.Parted.{is_line_of, is_part, part_in, read_behind}
use Rattle.ics_components.specs.Pass.{at_end, bottom, unless}
use Rattle.ics_components.specs.PlacedLines.{Open, Placed, component, innermost, is_begin, path_behind}
use Rattle.ics_components.proofs.Blocks.{concluded}
use Rattle.ics_components.proofs.Folds.{as_read, each_folds, each_read, item_read, items_read, then_read}
use Rattle.ics_components.proofs.Order.{Falls, below, falls-behind}
use Rattle.ics_components.proofs.PartPaths.{absent-any, begins-by}
use Rattle.ics_components.proofs.PassLemmas.{parsed_from}
use Rattle.ics_components.proofs.ReadLemmas.{last_in, read_whole}
use Rattle.ics_components.proofs.WholeComponents.{AreOfWhole, whole_ends, whole_in_place}

pub two-of : (a b : Bool) → (a && b) ≡ true → (a ≡ true) × (b ≡ true)
two-of a b e = (grind (arith, e), grind (arith, e))

-- A LINE BEFORE a component is none of its lines.
pub block-apart : (l e : Placed) (ls : List Placed) → Falls l.path → innermost l.path < l.number → l.number < e.number → block_of (l ∷ ls) e ≡ block_of ls e
block-apart l e ls falls inner less =
    rw (
      ne_eqb l.number e.number (λ same. omega (arith, same, less)),
      absent-any e.number l.path (below e.number l.path falls (omega (arith, inner, less))),
    ) refl

pub item-apart : (l e : Placed) (ls : List Placed) → Falls l.path → innermost l.path < l.number → (is_begin e ≡ true → l.number < e.number) →
    item_read (l ∷ ls) e ≡ item_read ls e
item-apart l e ls falls inner less = by_test (begins_part e) refl
  where
    other : Result ParsedFileSeen Fault
    other = cond (is_none (part_in e.path)) (unless (fault_there e) nothing_parsed) (Ok nothing_parsed)

    by_test : (t : Bool) → begins_part e ≡ t → cond t (gathered_in (block_read (l ∷ ls) e)) other ≡ cond t (gathered_in (block_read ls e)) other
    by_test true b =
        let begin = (two-of (is_begin e) (is_part e.path (component e)) (sym (begins-by e) ∙ b)).0 in
        ap (λ ks. gathered_in (read_behind (Reads (frames_around e.path) nothing_parsed) ks)) (block-apart l e ls falls inner (less begin))
    by_test false b = refl

items-apart : (l : Placed) (ls es : List Placed) (n : ℕ) (path : List Open) → Falls l.path → innermost l.path < l.number → l.number ≤ n →
    AreInPlace n path es → items_read (l ∷ ls) es ≡ items_read ls es
items-apart l ls [] n path falls inner le h = refl
items-apart l ls (e ∷ es) n path falls inner le h =
    let one = item-apart l e ls falls inner (λ b. omega (arith, le, h.2 b)) in
    let more = items-apart l ls es e.number (path_behind e) falls inner (omega (arith, le, h.1)) h.4 in
    λ i. then_read (one i) (more i)

each-items : (ls : List Placed) (n : ℕ) (path : List Open) → Falls path → AreInPlace n path ls → each_read ls ≡ items_read ls ls
each-items [] n path falls h = refl
each-items (l ∷ ls) n path falls h =
    let here : Falls l.path = rw (h.0) falls in
    let inner : innermost l.path < l.number = rw (h.0) h.3 in
    ap (then_read (item_read (l ∷ ls) l))
    (each-items ls l.number (path_behind l) (falls-behind l here inner).0 h.4
    ∙ sym (items-apart l ls ls l.number (path_behind l) here inner (omega arith) h.4))

-- LINES IN THEIR PLACES are read item by item.
pub items_fold : (ls : List Placed) → AreInPlace 0 [] ls → is_well_nested ls ≡ true →
    read_behind (Reads (bottom ∷ []) nothing_parsed) ls ≡ as_read (items_read ls ls)
items_fold ls h nested = each_folds ls h nested ∙ ap as_read (each-items ls 0 [] tt h)

-- Their first fault is the first of the items, or what stands where there are no lines.
abbrev pub fault_of : Result ParsedFileSeen Fault → Option Fault
fault_of (Ok had) = None
fault_of (Err fault) = Some fault

abbrev pub if_empty : List Placed → Option Fault
if_empty [] = Some (record { line = 1; kind = NotCalendar })
if_empty (l ∷ ls) = None

some-last : (n : ℕ) (ls : List Placed) → at_end (bottom ∷ []) (last_in (Some n) ls) ≡ None
some-last n [] = refl
some-last n (l ∷ ls) = some-last l.number ls

ends-as : (ls : List Placed) → at_end (bottom ∷ []) (last_in None ls) ≡ if_empty ls
ends-as [] = refl
ends-as (l ∷ ls) = some-last l.number ls

pub first_item : (ls : List Placed) → AreInPlace 0 [] ls → is_well_nested ls ≡ true → first_fault ls ≡ option_or (fault_of (items_read ls ls)) (if_empty ls)
first_item ls h nested = by_read (items_read ls ls) (first_fault ls) (ap (concluded (last_in None ls)) (sym (items_fold ls h nested)) ∙ read_whole ls h)
  where
    by_end : (o first : Option Fault) (had said : ParsedFileSeen) → unless o had ≡ unless first said → first ≡ o
    by_end None None had said e = refl
    by_end (Some f) (Some g) had said e = cc
    by_end None (Some g) had said e = cc
    by_end (Some f) None had said e = cc

    by_read : (r : Result ParsedFileSeen Fault) (first : Option Fault) →
        concluded (last_in None ls) (as_read r) ≡ unless first (parsed_from ls nothing_parsed [] ls) → first ≡ option_or (fault_of r) (if_empty ls)
    by_read (Err fault) first e = by_end (Some fault) first nothing_parsed (parsed_from ls nothing_parsed [] ls) e
    by_read (Ok had) first e =
        by_end (if_empty ls) first had (parsed_from ls nothing_parsed [] ls) (ap (λ o. unless o had) (sym (ends-as ls)) ∙ e)

abbrev as_ok : ParsedFileSeen → Result ParsedFileSeen Fault
as_ok had = Ok had

-- Where no fault stands, what the lines say is what is gathered of the items.
pub gathered_items : (ls : List Placed) → AreInPlace 0 [] ls → is_well_nested ls ≡ true → first_fault ls ≡ None →
    items_read ls ls ≡ Ok (parsed_from ls nothing_parsed [] ls)
gathered_items ls h nested none =
    by_read (items_read ls ls) (ap (concluded (last_in None ls)) (sym (items_fold ls h nested)) ∙ read_whole ls h ∙ ap (λ o. unless o said) none)
  where
    said : ParsedFileSeen
    said = parsed_from ls nothing_parsed [] ls

    by_end : (o : Option Fault) (had : ParsedFileSeen) → unless o had ≡ as_ok said → as_ok had ≡ as_ok said
    by_end None had e = e
    by_end (Some f) had e = cc

    by_read : (r : Result ParsedFileSeen Fault) → concluded (last_in None ls) (as_read r) ≡ as_ok said → r ≡ as_ok said
    by_read (Err fault) e = e
    by_read (Ok had) e = by_end (at_end (bottom ∷ []) (last_in None ls)) had e

-- WHOLE COMPONENTS: each is read as among all lines, if it is taken with all its lines.
abbrev pub AllTaken : (Placed → Bool) → Placed → List Placed → Type 0
AllTaken taken e [] = Unit {0}
AllTaken taken e (k ∷ ks) = (is_line_of e k ≡ true → taken k ≡ true) × AllTaken taken e ks

abbrev pub TakesWhole : (Placed → Bool) → List Placed → List Placed → Type 0
TakesWhole taken lines [] = Unit {0}
TakesWhole taken lines (e ∷ es) = (begins_part e ≡ true → taken e ≡ true → AllTaken taken e lines) × TakesWhole taken lines es

module _ (taken : Placed → Bool) where
  block-taken : (e : Placed) (ks : List Placed) → AllTaken taken e ks → block_of (filter taken ks) e ≡ block_of ks e
  block-taken e [] h = refl
  block-taken e (k ∷ ks) h = by_test (taken k) refl (block-taken e ks h.1)
    where
      by_line : (t : Bool) → is_line_of e k ≡ t → taken k ≡ false → block_of ks e ≡ cond t (k ∷ block_of ks e) (block_of ks e)
      by_line false e t = refl
      by_line true e t = let is = h.0 e in cc

      by_test : (t : Bool) → taken k ≡ t → block_of (filter taken ks) e ≡ block_of ks e →
          block_of (cond t (k ∷ filter taken ks) (filter taken ks)) e ≡ block_of (k ∷ ks) e
      by_test true t later = ap (λ (xs : List Placed). cond (is_line_of e k) (k ∷ xs) xs) later
      by_test false t later = later ∙ by_line (is_line_of e k) refl t

  item-taken : (lines : List Placed) (e : Placed) → (begins_part e ≡ true → AllTaken taken e lines) → item_read (filter taken lines) e ≡ item_read lines e
  item-taken lines e h = by_test (begins_part e) refl
    where
      other : Result ParsedFileSeen Fault
      other = cond (is_none (part_in e.path)) (unless (fault_there e) nothing_parsed) (Ok nothing_parsed)

      by_test : (t : Bool) → begins_part e ≡ t →
          cond t (gathered_in (block_read (filter taken lines) e)) other ≡ cond t (gathered_in (block_read lines e)) other
      by_test true b = ap (λ ks. gathered_in (read_behind (Reads (frames_around e.path) nothing_parsed) ks)) (block-taken e lines (h b))
      by_test false b = refl

  items-taken : (lines es : List Placed) → TakesWhole taken lines es → items_read (filter taken lines) (filter taken es) ≡ items_read lines (filter taken es)
  items-taken lines [] h = refl
  items-taken lines (e ∷ es) h = by_test (taken e) refl (items-taken lines es h.1)
    where
      by_test : (t : Bool) → taken e ≡ t → items_read (filter taken lines) (filter taken es) ≡ items_read lines (filter taken es) →
          items_read (filter taken lines) (cond t (e ∷ filter taken es) (filter taken es))
          ≡ items_read lines (cond t (e ∷ filter taken es) (filter taken es))
      by_test true t later = let one = item-taken lines e (λ b. h.0 b t) in λ i. then_read (one i) (later i)
      by_test false t later = later

  nest-taken : (ls : List Placed) → list_all nests ls ≡ true → list_all nests (filter taken ls) ≡ true
  nest-taken [] e = refl
  nest-taken (l ∷ ls) e = let both = two-of (nests l) (list_all nests ls) e in by_test (taken l) (nest-taken ls both.1) both.0
    where
      by_test : (t : Bool) → list_all nests (filter taken ls) ≡ true → nests l ≡ true → list_all nests (cond t (l ∷ filter taken ls) (filter taken ls)) ≡ true
      by_test true more one = rw one more
      by_test false more one = more

no-path : (path : List Open) → no_open path ≡ true → path ≡ []
no-path [] e = refl
no-path (c ∷ cs) e = cc

-- Whole components that are taken of lines in their places.
pub record AreChosen (taken : Placed → Bool) (whole : ℕ → Bool) (ls : List Placed) : Type 0 where
  pub in_place : AreInPlace 0 [] ls
  pub nested : is_well_nested ls ≡ true
  pub of_whole : AreOfWhole taken whole ls
  pub blocks : TakesWhole taken ls ls

module _ (taken : Placed → Bool) (whole : ℕ → Bool) (ls : List Placed) (chosen : AreChosen taken whole ls) where
  pub chosen_in_place : AreInPlace 0 [] (filter taken ls)
  chosen_in_place = whole_in_place taken whole ls chosen.in_place chosen.of_whole

  pub chosen_nested : is_well_nested (filter taken ls) ≡ true
  chosen_nested =
      let both = two-of (no_open (path_at_end [] ls)) (list_all nests ls) chosen.nested in
      rw (whole_ends taken whole ls chosen.in_place chosen.of_whole (no-path (path_at_end [] ls) both.0), nest-taken taken ls both.1) refl

  -- THE FIRST FAULT of what is taken is that of the first item that has one.
  pub chosen_first : first_fault (filter taken ls) ≡ option_or (fault_of (items_read ls (filter taken ls))) (if_empty (filter taken ls))
  chosen_first =
      first_item (filter taken ls) chosen_in_place chosen_nested
      ∙ ap (λ r. option_or (fault_of r) (if_empty (filter taken ls))) (items-taken taken ls ls chosen.blocks)

  -- WHAT IS GATHERED of it is what is gathered of the items.
  pub chosen_gathered : first_fault (filter taken ls) ≡ None →
      items_read ls (filter taken ls) ≡ Ok (parsed_from (filter taken ls) nothing_parsed [] (filter taken ls))
  chosen_gathered none = sym (items-taken taken ls ls chosen.blocks) ∙ gathered_items (filter taken ls) chosen_in_place chosen_nested none
