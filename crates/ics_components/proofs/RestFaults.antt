-- The lines of a file without its events are whole components, and their first fault is the least of those of the time zones and of the lines of none.
use Rattle.std.proofs.Common.{◌≡◌, ◌⊎◌, inl, inr, ℕ, ◌≤◌, Bool, true, false, ◌&&◌, ◌||◌, not, ◌==◌, List, [], ◌∷◌, map, filter, refl, sym, ap, ◌∙◌, arith, cond}
use Rattle.std.proofs.Common.{Option, Some, None, subst, fold, ⊎_elim}
use Rattle.std.specs.Prelude.{find, is_none, nat_le, option_map}
use Rattle.std.specs.List.{list_all, list_any}
use Rattle.std.specs.Option.{option_or}
use Rattle.std.proofs.lemmas.Bool.{eq-eqb, eqb-true}
use Rattle.std.proofs.lemmas.Bool.Decides.{leb_tells}
use Rattle.ics_components.specs.declared.fault.Fault.{Fault}
use Rattle.ics_components.specs.declared.fault.FaultKind.{FaultKind}
use Rattle.ics_components.specs.declared.name.Name.{Name}
use Rattle.ics_components.specs.declared.name.Name.TheVariants as name
use Rattle.ics_components.specs.EventLines.{all_events, is_event, is_well_nested}
use Rattle.ics_components.specs.Faults.{stands}
use Rattle.ics_components.specs.Names.{same_name}
use Rattle.ics_components.specs.Observances.{begins_zone}
use Rattle.ics_components.specs.ParsedFiles.{nothing_parsed}
use Rattle.ics_components.specs.PartFaults.{earlier}
use Rattle.ics_components.specs.Parted.{AreInPlace, begins_part, component_seen, fault_there, first_there, is_line_of, is_outside, is_part, kinds_there}
use Rattle.ics_components.specs.Parted.{part_in}
use Rattle.ics_components.specs.Pass.{unless}
use Rattle.ics_components.specs.PlacedLines.{Open, Placed, component, is_begin, is_end, name_on, path_behind}
use Rattle.ics_components.proofs.ChosenLines.{AreChosen, fault_of}
use Rattle.ics_components.proofs.ItemFaults.{Has, IsCovered, IsIn, has_item, item_fault, item_faults, item_of, least, IsItem}
use Rattle.ics_components.proofs.Opened.{AllOpened, above, any-in, begin-taken, begins_taken, begun-outside, in-any, of_whole, one-begin, opened}
use Rattle.ics_components.proofs.Opened.{takes_whole, within}
use Rattle.ics_components.proofs.Opened.{within-part, within-path}
use Rattle.ics_components.proofs.PartPaths.{begins-by}
use Rattle.ics_components.proofs.PartsLemmas.{event-no-zone}
use Rattle.ics_components.proofs.WholeComponents.{IsOfWhole}

abbrev pub is_rest : List Placed → Placed → Bool
is_rest lines line = not (list_any (λ event. is_line_of event line) (all_events lines))

pub two-of : (a b : Bool) → (a && b) ≡ true → (a ≡ true) × (b ≡ true)
two-of a b e = (grind (arith, e), grind (arith, e))

pub either-of : (a b : Bool) → (a || b) ≡ true → (a ≡ true) ⊎ (b ≡ true)
either-of true b e = inl refl
either-of false b e = inr e

pub left-or : (a b : Bool) → a ≡ true → (a || b) ≡ true
left-or a b e = grind (arith, e)

pub right-or : (a b : Bool) → b ≡ true → (a || b) ≡ true
right-or a b e = grind (arith, e)

pub never-both : {X : Type 0} (t : Bool) → t ≡ true → t ≡ false → X
never-both true e f = cc
never-both false e f = cc

pub in-filter : (p : Placed → Bool) (ks : List Placed) (e : Placed) → IsIn e (filter p ks) → IsIn e ks × (p e ≡ true)
in-filter p [] e i = absurd i
in-filter p (k ∷ ks) e i = by_test (λ j. in-filter p ks e j) (p k) refl i
  where
    by_test : (IsIn e (filter p ks) → IsIn e ks × (p e ≡ true)) → (t : Bool) → p k ≡ t → IsIn e (cond t (k ∷ filter p ks) (filter p ks)) →
        ((k ≡ e) ⊎ IsIn e ks) × (p e ≡ true)
    by_test more false t i = let two = more i in (inr two.0, two.1)
    by_test more true t (inl same) = (inl same, ap p (sym same) ∙ t)
    by_test more true t (inr j) = let two = more j in (inr two.0, two.1)

pub filter-in : (p : Placed → Bool) (ks : List Placed) (e : Placed) → IsIn e ks → p e ≡ true → IsIn e (filter p ks)
filter-in p [] e i t = absurd i
filter-in p (k ∷ ks) e i t = by_place (λ j. filter-in p ks e j t) i
  where
    more : (b : Bool) → IsIn e (filter p ks) → IsIn e (cond b (k ∷ filter p ks) (filter p ks))
    more true j = inr j
    more false j = j

    by_place : (IsIn e ks → IsIn e (filter p ks)) → (k ≡ e) ⊎ IsIn e ks → IsIn e (cond (p k) (k ∷ filter p ks) (filter p ks))
    by_place later (inl same) = let here : p k ≡ true = ap p same ∙ t in rw here (inl same)
    by_place later (inr j) = more (p k) (later j)

-- SEVERAL FAULTS, one after the other.
pub earlier-more : (a b c : Option Fault) → earlier (earlier a b) c ≡ earlier a (earlier b c)
earlier-more None b c = refl
earlier-more (Some a) None c = refl
earlier-more (Some a) (Some b) None = by_test (nat_le a.line b.line)
  where
    by_test : (t : Bool) → earlier (cond t (Some a) (Some b)) None ≡ cond t (Some a) (Some b)
    by_test true = refl
    by_test false = refl
earlier-more (Some a) (Some b) (Some c) = grind (arith, leb_tells)

earlier-none : (a : Option Fault) → earlier a None ≡ a
earlier-none None = refl
earlier-none (Some a) = refl

pub fold_least : {X : Type 0} (fault : X → Option Fault) (o : Option Fault) (xs : List X) →
    fold (λ first x. earlier first (fault x)) o xs ≡ earlier o (least (map fault xs))
fold_least fault o [] = sym (earlier-none o)
fold_least fault o (x ∷ xs) = fold_least fault (earlier o (fault x)) xs ∙ earlier-more o (fault x) (least (map fault xs))

-- what holds of each BEGIN line of what is open
pub all-open : (ls : List Placed) (whole : ℕ → Bool) (path : List Open) → AllOpened ls path →
    ((k : Placed) → IsIn k ls → is_begin k ≡ true → within k.number path ≡ true → whole k.number ≡ true) → list_all (λ c. whole c.begun) path ≡ true
all-open ls whole [] all each = refl
all-open ls whole (c ∷ cs) all each =
    let k = all.0 in
    let here : whole k.begin.number ≡ true =
    each k.begin k.among k.begins (left-or (c.begun == k.begin.number) (within k.begin.number cs) (eq-eqb c.begun k.begin.number (sym k.number))) in
    let one : whole c.begun ≡ true = ap whole (sym k.number) ∙ here in
    rw (one, all-open ls whole cs all.1 (λ m i b w. each m i b (right-or (c.begun == m.number) (within m.number cs) w))) refl

pub end-no-begin : (n : Name) → same_name n name.End ≡ true → same_name n name.Begin ≡ false
end-no-begin name.End e = refl
end-no-begin _ e = cc

-- THE LINES of events and time zones.
module _ (ls : List Placed) (h : AreInPlace 0 [] ls) where
  pub open-at : (l : Placed) → IsIn l ls → AllOpened ls l.path
  open-at l i = opened ls h l i

  pub part-begins : (b : Placed) → begins_part b ≡ true → is_begin b ≡ true
  part-begins b e = (two-of (is_begin b) (is_part b.path (component b)) (sym (begins-by b) ∙ e)).0

  -- what is within a component is of each in which that stands
  pub line-up : (b k l : Placed) → IsIn k ls → IsIn l ls → is_begin k ≡ true → within k.number l.path ≡ true → is_line_of b k ≡ true → is_line_of b l ≡ true
  line-up b k l i j begins w e =
      right-or (l.number == b.number) (within b.number l.path)
      (⊎_elim (λ t. subst (λ (n : ℕ). within n l.path ≡ true) (eqb-true k.number b.number t) w)
      (λ t. within-path ls h l.path (open-at l j) k i begins w b.number t) (either-of (k.number == b.number) (within b.number k.path) e))

  -- an END is of what the BEGIN of its component is of
  pub line-down : (b k l : Placed) (c : Open) (cs : List Open) → IsIn b ls → IsIn l ls → is_begin b ≡ true → is_end l ≡ true → l.path ≡ c ∷ cs →
      k.number ≡ c.begun → k.path ≡ cs → is_line_of b l ≡ true → is_line_of b k ≡ true
  line-down b k l c cs i j begins ends at number path e =
      ⊎_elim (λ t.
      let same = one-begin ls 0 [] h b l i j begins (eqb-true l.number b.number t) in
      let both : is_begin l ≡ true = ap is_begin same ∙ begins in
      never-both (is_begin l) both (end-no-begin (name_on l.content) ends)) (λ t. in_path (sym (ap (within b.number) at) ∙ t))
      (either-of (l.number == b.number) (within b.number l.path) e)
    where
      in_path : within b.number (c ∷ cs) ≡ true → is_line_of b k ≡ true
      in_path t =
          ⊎_elim (λ u. left-or (k.number == b.number) (within b.number k.path) (ap (λ n. n == b.number) number ∙ u))
          (λ u. right-or (k.number == b.number) (within b.number k.path) (ap (within b.number) path ∙ u))
          (either-of (c.begun == b.number) (within b.number cs) t)

  -- a line is of one event or time zone
  pub one-part : (b e k : Placed) → IsIn b ls → IsIn e ls → IsIn k ls → begins_part b ≡ true → begins_part e ≡ true → is_line_of b k ≡ true →
      is_line_of e k ≡ true → b ≡ e
  one-part b e k i j m begins starts x y =
      ⊎_elim (λ t. same_first (one-begin ls 0 [] h b k i m (part-begins b begins) (eqb-true k.number b.number t)))
      (λ t. inside_first (within-part ls h k.path (open-at k m) b i begins t)) (either-of (k.number == b.number) (within b.number k.path) x)
    where
      none-in : {X : Type 0} (n : ℕ) → begins_part k ≡ true → part_in k.path ≡ Some n → X
      none-in n p q = let no = begun-outside k p in cc

      same_first : k ≡ b → b ≡ e
      same_first same =
          ⊎_elim (λ t. sym same ∙ one-begin ls 0 [] h e k j m (part-begins e starts) (eqb-true k.number e.number t))
          (λ t. none-in e.number (ap begins_part same ∙ begins) (within-part ls h k.path (open-at k m) e j starts t))
          (either-of (k.number == e.number) (within e.number k.path) y)

      some-same : (a c : ℕ) → Some a ≡ Some c → a ≡ c
      some-same a c e = cc

      inside_first : part_in k.path ≡ Some b.number → b ≡ e
      inside_first p =
          ⊎_elim (λ t.
          let same = one-begin ls 0 [] h e k j m (part-begins e starts) (eqb-true k.number e.number t) in
          none-in b.number (ap begins_part same ∙ starts) p) (λ t.
          let numbers = some-same b.number e.number (sym p ∙ within-part ls h k.path (open-at k m) e j starts t) in
          one-begin ls 0 [] h e b j i (part-begins e starts) numbers) (either-of (k.number == e.number) (within e.number k.path) y)

  pub own-line : (b : Placed) → is_line_of b b ≡ true
  own-line b = left-or (b.number == b.number) (within b.number b.path) (eq-eqb b.number b.number refl)

  -- THE REST is whole components.
  abbrev rest : Placed → Bool
  rest = is_rest ls

  event-part : (e : Placed) → is_event e ≡ true → begins_part e ≡ true
  event-part e t = left-or (is_event e) (begins_zone e) t

  not-false : (t : Bool) → t ≡ false → not t ≡ true
  not-false t e = grind (arith, e)

  pub not-true : (t : Bool) → not t ≡ true → t ≡ false
  not-true t e = grind (arith, e)

  false-from : (t : Bool) → (t ≡ true → ⊥) → t ≡ false
  false-from true f = absurd (f refl)
  false-from false f = refl

  abbrev of-event : Placed → Bool
  of-event l = list_any (λ event. is_line_of event l) (all_events ls)

  rest-from : (l k : Placed) → ((b : Placed) → IsIn b ls → is_event b ≡ true → is_line_of b k ≡ true → of-event l ≡ true) → rest l ≡ true → rest k ≡ true
  rest-from l k up t =
      not-false (of-event k)
      (false-from (of-event k) (λ e.
      let f = in-any (λ event. is_line_of event k) (all_events ls) e in
      let two = in-filter is_event ls f.one f.among in
      never-both (of-event l) (up f.one two.0 two.1 f.holds) (not-true (of-event l) t)))

  pub of-one : (b l : Placed) → IsIn b ls → is_event b ≡ true → is_line_of b l ≡ true → of-event l ≡ true
  of-one b l i t e = any-in (λ event. is_line_of event l) (all_events ls) b (filter-in is_event ls b i t) e

  pub same-truth : (a b : Bool) → (a ≡ true → b ≡ true) → (b ≡ true → a ≡ true) → a ≡ b
  same-truth true b f g = sym (f refl)
  same-truth false true f g = g refl
  same-truth false false f g = refl

  rest-whole : (l : Placed) → IsIn l ls → IsOfWhole rest (begins_taken rest ls) l
  rest-whole l i = record {
    begins = λ b. sym (begin-taken rest ls h l i b l.number refl);
    inside = λ t. all-open ls (begins_taken rest ls) l.path (open-at l i) (λ k j b w.
        begin-taken rest ls h k j b k.number refl ∙ rest-from l k (λ e m v x. of-one e l m v (line-up e k l j i b w x)) t);
    ends = λ e c cs at. by_open e c cs at (subst (λ (p : List Open). AllOpened ls p) at (open-at l i));
  }
    where
      by_open : is_end l ≡ true → (c : Open) (cs : List Open) → l.path ≡ c ∷ cs → AllOpened ls (c ∷ cs) → rest l ≡ begins_taken rest ls c.begun
      by_open e c cs at all =
          let k = all.0 in
          let inside : within k.begin.number l.path ≡ true =
          ap (within k.begin.number) at ∙ left-or (c.begun == k.begin.number) (within k.begin.number cs) (eq-eqb c.begun k.begin.number (sym k.number)) in
          same-truth (rest l) (rest k.begin)
          (λ t. rest-from l k.begin (λ b m v x. of-one b l m v (line-up b k.begin l k.among i k.begins inside x)) t)
          (λ t. rest-from k.begin l (λ b m v x.
          of-one b k.begin m v (line-down b k.begin l c cs m i (part-begins b (event-part b v)) e at k.number k.path x)) t)
          ∙ sym (begin-taken rest ls h k.begin k.among k.begins c.begun k.number)

  pub rest_chosen : is_well_nested ls ≡ true → AreChosen rest (begins_taken rest ls) ls
  rest_chosen nested = record {
    in_place = h;
    nested = nested;
    of_whole = of_whole rest (begins_taken rest ls) ls rest-whole;
    blocks = takes_whole rest ls ls (λ e k i j b t x. rest-from e k (λ v m s y.
        let same = one-part v e k m i j (event-part v s) b y x in
        of-one v e m s (subst (λ (q : Placed). is_line_of v q ≡ true) same (own-line v))) t);
  }

  -- ITS FIRST FAULT is the least of that of the lines of none and of those of the time zones.
  abbrev pub rest_faults : List (Option Fault)
  rest_faults = first_there (filter is_outside ls) ∷ map (item_fault ls) (filter begins_zone ls)

  zone-part : (z : Placed) → begins_zone z ≡ true → begins_part z ≡ true
  zone-part z t = right-or (is_event z) (begins_zone z) t

  pub zone-rest : (z : Placed) → IsIn z ls → begins_zone z ≡ true → rest z ≡ true
  zone-rest z i t =
      not-false (of-event z)
      (false-from (of-event z) (λ e.
      let f = in-any (λ event. is_line_of event z) (all_events ls) e in
      let two = in-filter is_event ls f.one f.among in
      let same = one-part f.one z z two.0 i i (event-part f.one two.1) (zone-part z t) f.holds (own-line z) in
      never-both (begins_zone z) t (event-no-zone z (ap is_event (sym same) ∙ two.1))))

  plain-of : (a b : Bool) → (not a && b) ≡ true → (a ≡ false) × (b ≡ true)
  plain-of a b e = (grind (arith, e), grind (arith, e))

  outside-of : (o : Option ℕ) → is_none o ≡ true → o ≡ None
  outside-of None e = refl
  outside-of (Some k) e = cc

  outside-part : (l : Placed) → is_outside l ≡ true → (begins_part l ≡ false) × (part_in l.path ≡ None)
  outside-part l t = let two = plain-of (begins_part l) (is_none (part_in l.path)) t in (two.0, outside-of (part_in l.path) two.1)

  pub outside-rest : (l : Placed) → IsIn l ls → is_outside l ≡ true → rest l ≡ true
  outside-rest l i t =
      let out = outside-part l t in
      not-false (of-event l)
      (false-from (of-event l) (λ e.
      let f = in-any (λ event. is_line_of event l) (all_events ls) e in
      let two = in-filter is_event ls f.one f.among in
      ⊎_elim (λ u.
      let same = one-begin ls 0 [] h f.one l two.0 i (part-begins f.one (event-part f.one two.1)) (eqb-true l.number f.one.number u) in
      never-both (begins_part l) (ap begins_part same ∙ event-part f.one two.1) out.0) (λ u.
      let no = within-part ls h l.path (open-at l i) f.one two.0 (event-part f.one two.1) u in let none = out.1 in cc)
      (either-of (l.number == f.one.number) (within f.one.number l.path) f.holds)))

  pub fault-of-unless : (o : Option Fault) → fault_of (unless o nothing_parsed) ≡ o
  fault-of-unless None = refl
  fault-of-unless (Some f) = refl

  pub outside-fault : (l : Placed) → begins_part l ≡ false → part_in l.path ≡ None → item_fault ls l ≡ fault_there l
  outside-fault l b p = rw (b, p) (fault-of-unless (fault_there l))

pub fault-line : (l : Placed) (f : Fault) → fault_there l ≡ Some f → f.line ≡ l.number
fault-line l f e = by_find (find (λ kind. stands kind [] l) kinds_there) e
  where
    some-is : (a b : Fault) → Some a ≡ Some b → a ≡ b
    some-is a b e = cc

    by_find : (o : Option FaultKind) → option_map (λ kind. record { line = l.number; kind = kind }) o ≡ Some f → f.line ≡ l.number
    by_find None e = cc
    by_find (Some kind) e = ap (λ (x : Fault). x.line) (sym (some-is (record { line = l.number; kind = kind }) f e))

-- The first fault of the lines of none is that of one of them, at or before each.
pub record IsThere (ls : List Placed) (g : Fault) : Type 0 where
  pub line : Placed
  pub among : IsIn line ls
  pub outside : is_outside line ≡ true
  pub faulty : fault_there line ≡ Some g

pub first-there : (ls : List Placed) (g : Fault) → first_there (filter is_outside ls) ≡ Some g → IsThere ls g
first-there [] g e = cc
first-there (l ∷ ls) g e = by_test (λ t. first-there ls g t) (is_outside l) refl e
  where
    behind : IsThere ls g → IsThere (l ∷ ls) g
    behind t = record { line = t.line; among = inr t.among; outside = t.outside; faulty = t.faulty }

    by_fault : (first_there (filter is_outside ls) ≡ Some g → IsThere ls g) → is_outside l ≡ true → (o : Option Fault) → fault_there l ≡ o →
        option_or o (first_there (filter is_outside ls)) ≡ Some g → IsThere (l ∷ ls) g
    by_fault later out None f e = behind (later e)
    by_fault later out (Some k) f e = record { line = l; among = inl refl; outside = out; faulty = f ∙ e }

    by_test : (first_there (filter is_outside ls) ≡ Some g → IsThere ls g) → (t : Bool) → is_outside l ≡ t →
        first_there (cond t (l ∷ filter is_outside ls) (filter is_outside ls)) ≡ Some g → IsThere (l ∷ ls) g
    by_test later false t e = behind (later e)
    by_test later true t e = by_fault later t (fault_there l) refl e

pub record IsBefore (o : Option Fault) (n : ℕ) : Type 0 where
  pub fault : Fault
  pub is : o ≡ Some fault
  pub before : fault.line ≤ n

there-before : (ls : List Placed) (n : ℕ) (path : List Open) → AreInPlace n path ls → (l : Placed) (f : Fault) → IsIn l ls → is_outside l ≡ true →
    fault_there l ≡ Some f → IsBefore (first_there (filter is_outside ls)) l.number
there-before [] n path h l f i t e = absurd i
there-before (m ∷ ms) n path h l f i t e = by_place (λ j. there-before ms m.number (path_behind m) h.4 l f j t e) i
  where
    here : m ≡ l → IsBefore (first_there (filter is_outside (m ∷ ms))) l.number
    here same =
        let out : is_outside m ≡ true = ap is_outside same ∙ t in
        let faulty : fault_there m ≡ Some f = ap fault_there same ∙ e in
        record { fault = f; is = rw (out, faulty) refl; before = omega (arith, fault-line l f e) }

    by_fault : IsBefore (first_there (filter is_outside ms)) l.number → m.number ≤ l.number → (o : Option Fault) → fault_there m ≡ o →
        IsBefore (option_or o (first_there (filter is_outside ms))) l.number
    by_fault later le None g = later
    by_fault later le (Some k) g = record { fault = k; is = refl; before = omega (arith, le, fault-line m k g) }

    by_test : IsBefore (first_there (filter is_outside ms)) l.number → m.number ≤ l.number → (b : Bool) →
        IsBefore (first_there (cond b (m ∷ filter is_outside ms) (filter is_outside ms))) l.number
    by_test later le true = by_fault later le (fault_there m) refl
    by_test later le false = later

    by_place : (IsIn l ms → IsBefore (first_there (filter is_outside ms)) l.number) → (m ≡ l) ⊎ IsIn l ms →
        IsBefore (first_there (filter is_outside (m ∷ ms))) l.number
    by_place later (inl same) = here same
    by_place later (inr j) = by_test (later j) (above ms m.number (path_behind m) h.4 l j).0 (is_outside m)

module _ (ls : List Placed) (h : AreInPlace 0 [] ls) where
  pub rest-covers : (f : Fault) → Has (item_faults ls (filter (is_rest ls) ls)) f → IsCovered (rest_faults ls h) f
  rest-covers f has = by_begin (begins_part e) refl
    where
      it : IsItem (is_rest ls) (item_fault ls) ls f
      it = item_of (is_rest ls) (item_fault ls) ls f has

      e : Placed
      e = it.item

      by_zone : (t : Bool) → is_event e ≡ t → begins_part e ≡ true → IsCovered (rest_faults ls h) f
      by_zone true t b = never-both (list_any (λ event. is_line_of event e) (all_events ls)) (of-one ls h e e it.among t (own-line ls h e))
          (not-true ls h _ it.chosen)
      by_zone false t b =
          let zone : begins_zone e ≡ true = sym (ap (λ x. x || begins_zone e) t) ∙ b in
          record { by = f; has = inr (has_item begins_zone (item_fault ls) e ls f it.among zone it.faulty); before = omega arith }

      by_part : (o : Option ℕ) → part_in e.path ≡ o → begins_part e ≡ false → IsCovered (rest_faults ls h) f
      by_part (Some k) p b = let none : item_fault ls e ≡ None = rw (b, p) refl in let some = it.faulty in cc
      by_part None p b =
          let faulty : fault_there e ≡ Some f = sym (outside-fault ls h e b p) ∙ it.faulty in
          let out : is_outside e ≡ true = rw (b, p) refl in
          let first = there-before ls 0 [] h e f it.among out faulty in
          record { by = first.fault; has = inl first.is; before = omega (arith, first.before, fault-line e f faulty) }

      by_begin : (t : Bool) → begins_part e ≡ t → IsCovered (rest_faults ls h) f
      by_begin true b = by_zone (is_event e) refl b
      by_begin false b = by_part (part_in e.path) refl b

  pub rest-among : (g : Fault) → Has (rest_faults ls h) g → Has (item_faults ls (filter (is_rest ls) ls)) g
  rest-among g (inl e) =
      let t = first-there ls g e in
      let out = outside-part ls h t.line t.outside in
      has_item (is_rest ls) (item_fault ls) t.line ls g t.among (outside-rest ls h t.line t.among t.outside)
      (outside-fault ls h t.line out.0 out.1 ∙ t.faulty)
  rest-among g (inr m) =
      let z = item_of begins_zone (item_fault ls) ls g m in
      has_item (is_rest ls) (item_fault ls) z.item ls g z.among (zone-rest ls h z.item z.among z.chosen) z.faulty

  pub zones-read : (zs : List Placed) → map (item_fault ls) (filter begins_zone zs) ≡ map (λ zone. fault_of zone.read)
      (map (component_seen ls) (filter begins_zone zs))
  zones-read [] = refl
  zones-read (z ∷ zs) = by_test (begins_zone z) refl (zones-read zs)
    where
      by_test : (t : Bool) → begins_zone z ≡ t →
          map (item_fault ls) (filter begins_zone zs) ≡ map (λ zone. fault_of zone.read) (map (component_seen ls) (filter begins_zone zs)) →
          map (item_fault ls) (cond t (z ∷ filter begins_zone zs) (filter begins_zone zs))
          ≡ map (λ zone. fault_of zone.read) (map (component_seen ls) (cond t (z ∷ filter begins_zone zs) (filter begins_zone zs)))
      by_test false t more = more
      by_test true t more =
          let part = zone-part ls h z t in
          let one : item_fault ls z ≡ fault_of (component_seen ls z).read = rw part refl in λ i. one i ∷ more i
