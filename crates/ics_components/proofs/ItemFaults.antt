-- The faults of events and time zones, and of the lines of none, rise with the lines, so that the first is the least.
use Rattle.std.proofs.Common.{◌≡◌, ◌⊎◌, inl, inr, ℕ, ◌<◌, ◌≤◌, Bool, true, false, ◌&&◌, ◌==◌, List, [], ◌∷◌, map, filter, refl, sym, ap, ◌∙◌, arith, cond}
use Rattle.std.proofs.Common.{Option, Some, None, subst, ⊎_elim}
use Rattle.std.specs.Prelude.{Result, Ok, Err, find, nat_le, option_map}
use Rattle.std.specs.Option.{option_or}
use Rattle.std.proofs.lemmas.Bool.{le-leb, lt-leb}
use Rattle.ics_text.specs.ContentLines.{Parts}
use Rattle.ics_components.specs.declared.fault.Fault.{Fault}
use Rattle.ics_components.specs.declared.fault.FaultKind.{FaultKind}
use Rattle.ics_components.specs.declared.frame.Frame.{Frame}
use Rattle.ics_components.specs.Faults.{stands}
use Rattle.ics_components.specs.FirstFault.{first_fault}
use Rattle.ics_components.specs.Lines.{behind, fault_on, passing}
use Rattle.ics_components.specs.ParsedFileSeen.{ParsedFileSeen}
use Rattle.ics_components.specs.ParsedFiles.{and_line, nothing_parsed}
use Rattle.ics_components.specs.PartFaults.{earlier, is_within}
use Rattle.ics_components.specs.Parted.{AreInPlace, Broken, LinesRead, Reads, begins_part, block_read, fault_there, frames_around, gathered_in}
use Rattle.ics_components.specs.Parted.{is_part, kinds_there, part_in, read_behind, read_on, unless_faulty}
use Rattle.ics_components.specs.Pass.{unless}
use Rattle.ics_components.specs.PlacedLines.{Open, Placed, component, innermost, is_begin, is_end, named, path_behind}
use Rattle.ics_components.proofs.Blocks.{broken-stays}
use Rattle.ics_components.proofs.ChosenLines.{AreChosen, chosen_first, fault_of, if_empty, item-apart, two-of}
use Rattle.ics_components.proofs.Folds.{block-first, item_read, items_read, no-more-within, then_read}
use Rattle.ics_components.proofs.Order.{Falls, falls-behind}
use Rattle.ics_components.proofs.PartPaths.{begins-by, none-begins, part-open}
use Rattle.ics_components.proofs.PartsLemmas.{behind-begun, behind-inner}

-- the fault of an item
abbrev pub item_fault : List Placed → Placed → Option Fault
item_fault lines e = fault_of (item_read lines e)

abbrev pub item_faults : List Placed → List Placed → List (Option Fault)
item_faults lines es = map (item_fault lines) es

-- No number stands twice but within an event or a time zone.
abbrev pub AreApart : ℕ → List Placed → Type 0
AreApart n [] = Unit {0}
AreApart n (l ∷ ls) = (part_in l.path ≡ None → n < l.number) × AreApart l.number ls

-- FAULTS THAT RISE from a number on.
abbrev pub Rise : ℕ → List (Option Fault) → Type 0
Rise n [] = Unit {0}
Rise n (None ∷ os) = Rise n os
Rise n (Some f ∷ os) = (n < f.line) × Rise f.line os

rise-from : (os : List (Option Fault)) (m n : ℕ) → m ≤ n → Rise n os → Rise m os
rise-from [] m n le h = tt
rise-from (None ∷ os) m n le h = rise-from os m n le h
rise-from (Some f ∷ os) m n le h = (omega (arith, le, h.0), h.1)

rise-filter : (taken : Placed → Bool) (fault : Placed → Option Fault) (es : List Placed) (n : ℕ) → Rise n (map fault es) → Rise n (map fault (filter taken es))
rise-filter taken fault [] n h = tt
rise-filter taken fault (e ∷ es) n h = by_fault (fault e) refl (taken e) (λ m. rise-filter taken fault es m) h
  where
    by_fault : (o : Option Fault) → fault e ≡ o → (t : Bool) → ((m : ℕ) → Rise m (map fault es) → Rise m (map fault (filter taken es))) →
        Rise n (o ∷ map fault es) → Rise n (map fault (cond t (e ∷ filter taken es) (filter taken es)))
    by_fault None is true more h = rw is (more n h)
    by_fault None is false more h = more n h
    by_fault (Some f) is true more h = rw is (h.0, more f.line h.1)
    by_fault (Some f) is false more h = more n (rise-from (map fault es) n f.line (omega (arith, h.0)) h.1)

-- each item among the lines from it on
abbrev each_faults : List Placed → List (Option Fault)
each_faults [] = []
each_faults (l ∷ ls) = item_fault (l ∷ ls) l ∷ each_faults ls

-- A LINE is faulty by its number.
abbrev IsHere : ℕ → LinesRead → Type 0
IsHere number (Reads frames had) = Unit {0}
IsHere number (Broken fault) = fault.line ≡ number

on-line : (number : ℕ) (o : Option Parts) (frames : List Frame) (had : ParsedFileSeen) → IsHere number (read_on number o (Reads frames had))
on-line number None frames had = refl
on-line number (Some c) frames had = by_fault (fault_on (named c) c frames)
  where
    by_fault : (o : Option FaultKind) →
        IsHere number (unless_faulty number o (Reads (behind number (named c) c frames) (and_line number (passing (named c) c frames) had)))
    by_fault None = tt
    by_fault (Some kind) = refl

abbrev Rises : List Placed → Type 0
Rises ls = (n : ℕ) (path : List Open) → Falls path → AreInPlace n path ls → AreApart n ls → Rise n (each_faults ls)

abbrev RisesWithin : List Placed → Type 0
RisesWithin ls =
    (n : ℕ) (path : List Open) (b : ℕ) (frames : List Frame) (had : ParsedFileSeen) (fault : Fault) → Falls path → AreInPlace n path ls → AreApart n ls →
    part_in path ≡ Some b → read_behind (Reads frames had) (filter (is_within b) ls) ≡ Broken fault → (n ≤ fault.line) × Rise fault.line (each_faults ls)

some-is : (f g : Fault) → Some f ≡ Some g → f ≡ g
some-is f g e = cc

same-broken : (f g : Fault) → Broken f ≡ Broken g → f ≡ g
same-broken f g e = cc

within-none : (l : Placed) (ls : List Placed) (b : ℕ) → part_in l.path ≡ Some b → item_fault (l ∷ ls) l ≡ None
within-none l ls b p =
    let none : begins_part l ≡ false = begins-by l ∙ ap (λ t. is_begin l && t) (none-begins l.path b p (component l)) ∙ never (is_begin l) in rw (none, p) refl
  where
    never : (t : Bool) → (t && false) ≡ false
    never t = grind arith

module _ (l : Placed) (ls : List Placed) (rises : Rises ls) (within : RisesWithin ls) (falls : Falls l.path) (inner : innermost l.path < l.number)
    (h : AreInPlace l.number (path_behind l) ls) (apart : AreApart l.number ls) where
  later : Rise l.number (each_faults ls)
  later = rises l.number (path_behind l) (falls-behind l falls inner).0 h apart

  -- what is read of the lines of the component that is open, behind this one
  within-line : (b : ℕ) (read : LinesRead) (fault : Fault) → part_in l.path ≡ Some b → IsHere l.number read →
      read_behind read (filter (is_within b) ls) ≡ Broken fault → (l.number ≤ fault.line) × Rise fault.line (each_faults ls)
  within-line b (Broken f) fault p here e =
      let same = same-broken f fault (sym (broken-stays (filter (is_within b) ls) f) ∙ e) in
      let line : fault.line ≡ l.number = ap (λ (k : Fault). k.line) (sym same) ∙ here in (omega (arith, line), rw line later)
  within-line b (Reads frames had) fault p here e = by_end (is_end l && (innermost l.path == b)) refl
    where
      by_end : (t : Bool) → (is_end l && (innermost l.path == b)) ≡ t → (l.number ≤ fault.line) × Rise fault.line (each_faults ls)
      by_end true t =
          let none : filter (is_within b) ls ≡ [] = no-more-within l ls b falls inner h p t in
          let ended : read_behind (Reads frames had) [] ≡ Broken fault = rw none at e in cc
      by_end false t = within l.number (path_behind l) b frames had fault (falls-behind l falls inner).0 h apart (behind-inner l b p t) e

  -- a component that begins here
  begun-line : (n : ℕ) → n < l.number → begins_part l ≡ true → part_in l.path ≡ None → Rise n (fault_of (gathered_in (block_read (l ∷ ls) l)) ∷ each_faults ls)
  begun-line n less begins p =
      rw (block-first l ls both.0 h)
      (by_read (read_on l.number l.content (Reads (frames_around l.path) nothing_parsed))
      (on-line l.number l.content (frames_around l.path) nothing_parsed))
    where
      both : (is_begin l ≡ true) × (is_part l.path (component l) ≡ true)
      both = two-of (is_begin l) (is_part l.path (component l)) (sym (begins-by l) ∙ begins)

      by_final : (frames : List Frame) (had : ParsedFileSeen) (r : LinesRead) → read_behind (Reads frames had) (filter (is_within l.number) ls) ≡ r →
          Rise n (fault_of (gathered_in r) ∷ each_faults ls)
      by_final frames had (Reads fs more) e = rise-from (each_faults ls) n l.number (omega (arith, less)) later
      by_final frames had (Broken fault) e =
          let two =
          within l.number (path_behind l) l.number frames had fault (falls-behind l falls inner).0 h apart (behind-begun l both.0 both.1 p) e in
          (omega (arith, less, two.0), two.1)

      by_read : (r : LinesRead) → IsHere l.number r → Rise n (fault_of (gathered_in (read_behind r (filter (is_within l.number) ls))) ∷ each_faults ls)
      by_read (Broken f) here = rw (broken-stays (filter (is_within l.number) ls) f) (rw here less, rw here later)
      by_read (Reads frames had) here = by_final frames had (read_behind (Reads frames had) (filter (is_within l.number) ls)) refl

  -- a line of none
  other-line : (n : ℕ) → n < l.number → Rise n (fault_of (unless (fault_there l) nothing_parsed) ∷ each_faults ls)
  other-line n less = by_find (find (λ kind. stands kind [] l) kinds_there)
    where
      by_find : (o : Option FaultKind) →
          Rise n (fault_of (unless (option_map (λ kind. record { line = l.number; kind = kind }) o) nothing_parsed) ∷ each_faults ls)
      by_find None = rise-from (each_faults ls) n l.number (omega (arith, less)) later
      by_find (Some kind) = (less, later)

  any-line : (n : ℕ) → n ≤ l.number → (part_in l.path ≡ None → n < l.number) → Rise n (each_faults (l ∷ ls))
  any-line n le less = by_part (part_in l.path) refl
    where
      by_begin : (t : Bool) → begins_part l ≡ t → part_in l.path ≡ None → Rise n (each_faults (l ∷ ls))
      by_begin true b p = rw b (begun-line n (less p) b p)
      by_begin false b p = rw (b, p) (other-line n (less p))

      by_part : (o : Option ℕ) → part_in l.path ≡ o → Rise n (each_faults (l ∷ ls))
      by_part None p = by_begin (begins_part l) refl p
      by_part (Some b) p = rw (within-none l ls b p) (rise-from (each_faults ls) n l.number le later)

module _ (l : Placed) (ls : List Placed) (both : Rises ls × RisesWithin ls) where
  rises-on : Rises (l ∷ ls)
  rises-on n path falls h apart = any-line l ls both.0 both.1 (rw (h.0) falls) (rw (h.0) h.3) h.4 apart.1 n h.1 apart.0

  within-on : RisesWithin (l ∷ ls)
  within-on n path b frames had fault falls h apart p e =
      let at : part_in l.path ≡ Some b = rw (h.0) p in
      let inside : is_within b l ≡ true = part-open l.path b at in
      let left : read_behind (read_on l.number l.content (Reads frames had)) (filter (is_within b) ls) ≡ Broken fault = rw inside at e in
      let two =
      within-line l ls both.0 both.1 (rw (h.0) falls) (rw (h.0) h.3) h.4 apart.1 b (read_on l.number l.content (Reads frames had)) fault at
      (on-line l.number l.content frames had) left in
      (omega (arith, h.1, two.0), rw (within-none l ls b at) two.1)

rises-both : (ls : List Placed) → Rises ls × RisesWithin ls
rises-both [] = (λ n path falls h apart. tt, λ n path b frames had fault falls h apart p e. cc)
rises-both (l ∷ ls) = (rises-on l ls (rises-both ls), within-on l ls (rises-both ls))

-- the same among all lines
faults-apart : (l : Placed) (ls es : List Placed) (n : ℕ) (path : List Open) → Falls l.path → innermost l.path < l.number → l.number ≤ n →
    AreInPlace n path es → item_faults (l ∷ ls) es ≡ item_faults ls es
faults-apart l ls [] n path falls inner le h = refl
faults-apart l ls (e ∷ es) n path falls inner le h =
    let one = ap fault_of (item-apart l e ls falls inner (λ b. omega (arith, le, h.2 b))) in
    let more = faults-apart l ls es e.number (path_behind e) falls inner (omega (arith, le, h.1)) h.4 in
    λ i. one i ∷ more i

each-among : (ls : List Placed) (n : ℕ) (path : List Open) → Falls path → AreInPlace n path ls → each_faults ls ≡ item_faults ls ls
each-among [] n path falls h = refl
each-among (l ∷ ls) n path falls h =
    let here : Falls l.path = rw (h.0) falls in
    let inner : innermost l.path < l.number = rw (h.0) h.3 in
    ap (λ os. item_fault (l ∷ ls) l ∷ os)
    (each-among ls l.number (path_behind l) (falls-behind l here inner).0 h.4
    ∙ sym (faults-apart l ls ls l.number (path_behind l) here inner (omega arith) h.4))

-- THE FAULTS OF THE ITEMS RISE, also where some are taken.
pub faults_rise : (taken : Placed → Bool) (ls : List Placed) → AreInPlace 0 [] ls → AreApart 0 ls → Rise 0 (item_faults ls (filter taken ls))
faults_rise taken ls h apart =
    rise-filter taken (item_fault ls) ls 0 (rw (each-among ls 0 [] tt h) at (rises-both ls).0 0 [] tt h apart)

-- THE LEAST of some faults.
abbrev pub least : List (Option Fault) → Option Fault
least [] = None
least (o ∷ os) = earlier o (least os)

abbrev pub first_some : List (Option Fault) → Option Fault
first_some [] = None
first_some (o ∷ os) = option_or o (first_some os)

pub items_first : (lines es : List Placed) → fault_of (items_read lines es) ≡ first_some (item_faults lines es)
items_first lines [] = refl
items_first lines (e ∷ es) = by_read (item_read lines e) (items_read lines es) ∙ ap (option_or (item_fault lines e)) (items_first lines es)
  where
    by_read : (a b : Result ParsedFileSeen Fault) → fault_of (then_read a b) ≡ option_or (fault_of a) (fault_of b)
    by_read (Err f) b = refl
    by_read (Ok had) (Err f) = refl
    by_read (Ok had) (Ok more) = refl

-- whether a fault is among some
abbrev pub Has : List (Option Fault) → Fault → Type 0
Has [] f = ⊥
Has (o ∷ os) f = (o ≡ Some f) ⊎ Has os f

first-has : (os : List (Option Fault)) (f : Fault) → first_some os ≡ Some f → Has os f
first-has [] f e = cc
first-has (None ∷ os) f e = inr (first-has os f e)
first-has (Some g ∷ os) f e = inl e

none-has : (os : List (Option Fault)) (f : Fault) → first_some os ≡ None → Has os f → ⊥
none-has [] f e h = h
none-has (None ∷ os) f e h = ⊎_elim (λ i. let no : None ≡ Some f = i in cc) (λ more. none-has os f e more) h
none-has (Some g ∷ os) f e h = cc

pub least-has : (os : List (Option Fault)) (f : Fault) → least os ≡ Some f → Has os f
least-has [] f e = cc
least-has (None ∷ os) f e = inr (least-has os f e)
least-has (Some g ∷ os) f e = by_rest (λ k. least-has os k) (least os) refl e
  where
    by_test : (k : Fault) (t : Bool) → Has os k → cond t (Some g) (Some k) ≡ Some f → (Some g ≡ Some f) ⊎ Has os f
    by_test k true h e = inl e
    by_test k false h e = let same : k ≡ f = some-is k f e in inr (subst (λ (x : Fault). Has os x) same h)

    by_rest : ((k : Fault) → least os ≡ Some k → Has os k) → (o : Option Fault) → least os ≡ o → earlier (Some g) o ≡ Some f → (Some g ≡ Some f) ⊎ Has os f
    by_rest more None i e = inl e
    by_rest more (Some k) i e = by_test k (nat_le g.line k.line) (more k i) e

-- It is one that is before all others.
abbrev IsBelow : Fault → Fault → Type 0
IsBelow f g = (f ≡ g) ⊎ (f.line < g.line)

least-is : (os : List (Option Fault)) (f : Fault) → Has os f → ((g : Fault) → Has os g → IsBelow f g) → least os ≡ Some f
least-is [] f h below = absurd h
least-is (None ∷ os) f h below = least-is os f (⊎_elim (λ i. let no : None ≡ Some f = i in cc) (λ m. m) h) (λ g m. below g (inr m))
least-is (Some g ∷ os) f h below = by_head (λ m. least-is os f m (λ k n. below k (inr n))) (below g (inl refl)) h
  where
    le-of : (k : Fault) → f ≡ g → IsBelow f k → g.line ≤ k.line
    le-of k same b =
        ⊎_elim (λ i. omega (arith, ap (λ (x : Fault). x.line) same, ap (λ (x : Fault). x.line) i))
        (λ i. omega (arith, ap (λ (x : Fault). x.line) same, i)) b

    by_rest : f ≡ g → (o : Option Fault) → least os ≡ o → earlier (Some g) o ≡ Some f
    by_rest same None e = ap Some (sym same)
    by_rest same (Some k) e = rw (le-leb g.line k.line (le-of k same (below k (inr (least-has os k e))))) (ap Some (sym same))

    within : f.line < g.line → (Some g ≡ Some f) ⊎ Has os f → Has os f
    within less h = ⊎_elim (λ i. absurd (omega (arith, less, ap (λ (x : Fault). x.line) (some-is g f i)))) (λ m. m) h

    by_head : (Has os f → least os ≡ Some f) → IsBelow f g → (Some g ≡ Some f) ⊎ Has os f → earlier (Some g) (least os) ≡ Some f
    by_head more (inl same) h = by_rest same (least os) refl
    by_head more (inr less) h = rw (more (within less h), lt-leb g.line f.line less) refl

pub rise-has : (os : List (Option Fault)) (n : ℕ) (g : Fault) → Rise n os → Has os g → n < g.line
rise-has [] n g r h = absurd h
rise-has (None ∷ os) n g r h = rise-has os n g r (⊎_elim (λ i. let no : None ≡ Some g = i in cc) (λ m. m) h)
rise-has (Some k ∷ os) n g r h = by_head (λ m. rise-has os k.line g r.1 m) h
  where
    by_head : (Has os g → k.line < g.line) → (Some k ≡ Some g) ⊎ Has os g → n < g.line
    by_head more (inl i) = omega (arith, r.0, ap (λ (x : Fault). x.line) (some-is k g i))
    by_head more (inr m) = omega (arith, r.0, more m)

first-below : (os : List (Option Fault)) (n : ℕ) (f g : Fault) → Rise n os → first_some os ≡ Some f → Has os g → IsBelow f g
first-below [] n f g r e h = absurd h
first-below (None ∷ os) n f g r e h = first-below os n f g r e (⊎_elim (λ i. let no : None ≡ Some g = i in cc) (λ m. m) h)
first-below (Some k ∷ os) n f g r e h = by_head h
  where
    same : k ≡ f
    same = some-is k f e

    by_head : (Some k ≡ Some g) ⊎ Has os g → IsBelow f g
    by_head (inl i) = inl (sym same ∙ some-is k g i)
    by_head (inr m) = let less = rise-has os k.line g r.1 m in inr (omega (arith, less, ap (λ (x : Fault). x.line) same))

-- One of them is at or before a fault.
pub record IsCovered (os : List (Option Fault)) (f : Fault) : Type 0 where
  pub by : Fault
  pub has : Has os by
  pub before : by.line ≤ f.line

-- THE FIRST OF FAULTS THAT RISE is the least of any of them that cover all.
pub least_covers : (all some : List (Option Fault)) (n : ℕ) → Rise n all → ((g : Fault) → Has some g → Has all g) →
    ((f : Fault) → Has all f → IsCovered some f) → first_some all ≡ least some
least_covers all some n r among covers = by_first (first_some all) refl
  where
    by_least : (o : Option Fault) → least some ≡ o → first_some all ≡ None → None ≡ o
    by_least None e none = refl
    by_least (Some k) e none = absurd (none-has all k none (among k (least-has some k e)))

    itself : (f : Fault) → first_some all ≡ Some f → (c : IsCovered some f) → IsBelow f c.by → Has some f
    itself f e c b =
        ⊎_elim (λ i. subst (λ (x : Fault). Has some x) (sym i) c.has) (λ less. absurd (omega (arith, less, c.before))) b

    by_first : (o : Option Fault) → first_some all ≡ o → o ≡ least some
    by_first None e = by_least (least some) refl e
    by_first (Some f) e =
        let c = covers f (first-has all f e) in
        sym (least-is some f (itself f e c (first-below all n f c.by r e (among c.by c.has))) (λ g h. first-below all n f g r e (among g h)))

-- THE FIRST FAULT of whole components that are taken is the least of any faults of theirs that cover all.
or-nothing : (o : Option Fault) → option_or o None ≡ o
or-nothing o = grind arith

pub chosen_least : (taken : Placed → Bool) (whole : ℕ → Bool) (ls : List Placed) → AreChosen taken whole ls → AreApart 0 ls →
    if_empty (filter taken ls) ≡ None → (faults : List (Option Fault)) →
    ((g : Fault) → Has faults g → Has (item_faults ls (filter taken ls)) g) → ((f : Fault) → Has (item_faults ls (filter taken ls)) f → IsCovered faults f) →
    first_fault (filter taken ls) ≡ least faults
chosen_least taken whole ls chosen apart some faults among covers =
    chosen_first taken whole ls chosen
    ∙ ap (option_or (fault_of (items_read ls (filter taken ls)))) some
    ∙ or-nothing (fault_of (items_read ls (filter taken ls)))
    ∙ items_first ls (filter taken ls)
    ∙ least_covers (item_faults ls (filter taken ls)) faults 0 (faults_rise taken ls chosen.in_place apart) among covers

-- THE ITEMS that are taken, by where they stand.
abbrev pub IsIn : Placed → List Placed → Type 0
IsIn e [] = ⊥
IsIn e (k ∷ ks) = (k ≡ e) ⊎ IsIn e ks

pub has_item : (taken : Placed → Bool) (fault : Placed → Option Fault) (e : Placed) (ks : List Placed) (f : Fault) → IsIn e ks → taken e ≡ true →
    fault e ≡ Some f → Has (map fault (filter taken ks)) f
has_item taken fault e [] f i t h = absurd i
has_item taken fault e (k ∷ ks) f i t h = by_place (λ m. has_item taken fault e ks f m t h) i
  where
    more : (b : Bool) → Has (map fault (filter taken ks)) f → Has (map fault (cond b (k ∷ filter taken ks) (filter taken ks))) f
    more true h = inr h
    more false h = h

    by_place : (IsIn e ks → Has (map fault (filter taken ks)) f) → (k ≡ e) ⊎ IsIn e ks →
        Has (map fault (cond (taken k) (k ∷ filter taken ks) (filter taken ks))) f
    by_place more_in (inl same) = let here : taken k ≡ true = ap taken same ∙ t in rw here (inl (ap fault same ∙ h))
    by_place more_in (inr m) = more (taken k) (more_in m)

pub record IsItem (taken : Placed → Bool) (fault : Placed → Option Fault) (ks : List Placed) (f : Fault) : Type 0 where
  pub item : Placed
  pub among : IsIn item ks
  pub chosen : taken item ≡ true
  pub faulty : fault item ≡ Some f

pub item_of : (taken : Placed → Bool) (fault : Placed → Option Fault) (ks : List Placed) (f : Fault) → Has (map fault (filter taken ks)) f →
    IsItem taken fault ks f
item_of taken fault [] f h = absurd h
item_of taken fault (k ∷ ks) f h = by_test (λ m. item_of taken fault ks f m) (taken k) refl h
  where
    behind : IsItem taken fault ks f → IsItem taken fault (k ∷ ks) f
    behind i = record { item = i.item; among = inr i.among; chosen = i.chosen; faulty = i.faulty }

    by_test : (Has (map fault (filter taken ks)) f → IsItem taken fault ks f) → (t : Bool) → taken k ≡ t →
        Has (map fault (cond t (k ∷ filter taken ks) (filter taken ks))) f → IsItem taken fault (k ∷ ks) f
    by_test more false t h = behind (more h)
    by_test more true t (inl e) = record { item = k; among = inl refl; chosen = t; faulty = e }
    by_test more true t (inr m) = behind (more m)
