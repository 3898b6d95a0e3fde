-- The first fault of a file without its events is what is gathered of it, also of a file of events alone.
use Rattle.std.proofs.Common.{◌≡◌, inl, ℕ, Bool, true, false, ◌&&◌, ◌||◌, ◌==◌, List, [], ◌∷◌, filter, map, fold, refl, sym, ap, ◌∙◌, cond}
use Rattle.std.proofs.Common.{Option, Some, None, subst}
use Rattle.std.specs.List.{list_any}
use Rattle.std.specs.Option.{option_or}
use Rattle.ics_components.specs.declared.fault.Fault.{Fault}
use Rattle.ics_components.specs.EventLines.{all_events, is_event, is_well_nested}
use Rattle.ics_components.specs.FirstFault.{first_fault}
use Rattle.ics_components.specs.Observances.{begins_zone}
use Rattle.ics_components.specs.PartFaults.{earlier}
use Rattle.ics_components.specs.Parted.{AreInPlace, begins_part, component_seen, fault_outside, first_there, is_line_of, is_outside}
use Rattle.ics_components.specs.Parted.{is_part, part_in, parted_lines}
use Rattle.ics_components.specs.PlacedLines.{Open, Placed, component}
use Rattle.ics_components.proofs.ChosenLines.{fault_of, if_empty}
use Rattle.ics_components.proofs.ItemFaults.{AreApart, IsIn, chosen_least, least}
use Rattle.ics_components.proofs.Opened.{AllOpened, begins_taken}
use Rattle.ics_components.proofs.PartPaths.{begins-by, part-open}
use Rattle.ics_components.proofs.RestFaults.{filter-in, fold_least, in-filter, is_rest, never-both, not-true, of-one, open-at, outside-rest, own-line}
use Rattle.ics_components.proofs.RestFaults.{rest-among, rest-covers, rest_chosen, rest_faults, right-or, zone-rest, zones-read}

-- the event or the time zone that is open began on a line of its own
pub record IsPartOpened (ls : List Placed) (n : ℕ) : Type 0 where
  pub begin : Placed
  pub among : IsIn begin ls
  pub begins : begins_part begin ≡ true
  pub number : begin.number ≡ n

pub part-opened : (ls : List Placed) (path : List Open) → AllOpened ls path → (n : ℕ) → part_in path ≡ Some n → IsPartOpened ls n
part-opened ls [] all n e = cc
part-opened ls (c ∷ cs) all n e = by_rest (λ k p. part-opened ls cs all.1 k p) (part_in cs) refl (is_part cs c.name) refl e
  where
    some-same : (a b : ℕ) → Some a ≡ Some b → a ≡ b
    some-same a b e = cc

    by_rest : ((k : ℕ) → part_in cs ≡ Some k → IsPartOpened ls k) → (o : Option ℕ) → part_in cs ≡ o → (t : Bool) → is_part cs c.name ≡ t →
        option_or o (cond t (Some c.begun) None) ≡ Some n → IsPartOpened ls n
    by_rest inner (Some k) p t is e = inner n (p ∙ e)
    by_rest inner None p false is e = cc
    by_rest inner None p true is e =
        let k = all.0 in
        let part : is_part k.begin.path (component k.begin) ≡ true = (λ i. is_part (k.path i) (k.called i)) ∙ is in
        let here : begins_part k.begin ≡ true = begins-by k.begin ∙ (λ i. k.begins i && part i) in
        record { begin = k.begin; among = k.among; begins = here; number = k.number ∙ some-same c.begun n e }

-- some lines, or none
none-of : (xs : List Placed) → ((x : Placed) → IsIn x xs → ⊥) → xs ≡ []
none-of [] none = refl
none-of (x ∷ xs) none = absurd (none x (inl refl))

no-one : (xs : List Placed) (x : Placed) → xs ≡ [] → IsIn x xs → ⊥
no-one [] x e i = i
no-one (y ∷ ys) x e i = cc

some-one : (xs : List Placed) (x : Placed) → IsIn x xs → if_empty xs ≡ None
some-one [] x i = absurd i
some-one (y ∷ ys) x i = refl

module _ (ls : List Placed) (h : AreInPlace 0 [] ls) where
  abbrev rest_lines : List Placed
  rest_lines = filter (is_rest ls) ls

  -- A FILE OF EVENTS ALONE: where no line is outside and no time zone begins, nothing is left.
  no-rest : filter is_outside ls ≡ [] → filter begins_zone ls ≡ [] → (k : Placed) → IsIn k rest_lines → ⊥
  no-rest others zones k i = by_begin (begins_part k) refl
    where
      at : IsIn k ls × (is_rest ls k ≡ true)
      at = in-filter (is_rest ls) ls k i

      of-none : (e : Placed) → IsIn e ls → is_event e ≡ true → is_line_of e k ≡ true → ⊥
      of-none e j t is =
          never-both (list_any (λ event. is_line_of event k) (all_events ls)) (of-one ls h e k j t is) (not-true ls h _ at.1)

      -- what is of an event or of a time zone is of none of these
      of-part : (b : Placed) → IsIn b ls → begins_part b ≡ true → is_line_of b k ≡ true → ⊥
      of-part b j begins is = by_event (is_event b) refl
        where
          by_event : (t : Bool) → is_event b ≡ t → ⊥
          by_event true t = of-none b j t is
          by_event false t =
              let zone : begins_zone b ≡ true = sym (ap (λ x. x || begins_zone b) t) ∙ begins in
              no-one (filter begins_zone ls) b zones (filter-in begins_zone ls b j zone)

      by_part : (o : Option ℕ) → part_in k.path ≡ o → begins_part k ≡ false → ⊥
      by_part None p b =
          let out : is_outside k ≡ true = rw (b, p) refl in no-one (filter is_outside ls) k others (filter-in is_outside ls k at.0 out)
      by_part (Some n) p b =
          let opened = part-opened ls k.path (open-at ls h k at.0) n p in
          let within : list_any (λ c. c.begun == opened.begin.number) k.path ≡ true = rw (opened.number) (part-open k.path n p) in
          of-part opened.begin opened.among opened.begins (right-or (k.number == opened.begin.number) _ within)

      by_begin : (t : Bool) → begins_part k ≡ t → ⊥
      by_begin true b = of-part k at.0 b (own-line ls h k)
      by_begin false b = by_part (part_in k.path) refl b

  -- where a line is left
  rest-least : is_well_nested ls ≡ true → AreApart 0 ls → if_empty rest_lines ≡ None →
      first_fault rest_lines ≡ fold (λ first zone. earlier first (fault_of zone.read)) (first_there (filter is_outside ls)) (parted_lines ls).zones
  rest-least nested apart some =
      chosen_least (is_rest ls) (begins_taken (is_rest ls) ls) ls (rest_chosen ls h nested) apart some (rest_faults ls h) (rest-among ls h) (rest-covers ls h)
      ∙ ap (λ os. earlier (first_there (filter is_outside ls)) (least os)) (zones-read ls h ls)
      ∙ sym (fold_least (λ zone. fault_of zone.read) (first_there (filter is_outside ls)) (parted_lines ls).zones)

  abbrev zones_after : List Placed → Option Fault → Option Fault
  zones_after zones first = fold (λ first zone. earlier first (fault_of zone.read)) first (map (component_seen ls) zones)

  -- THE FIRST FAULT OF THE REST is the least of that outside and of those of the time zones.
  pub rest_first : is_well_nested ls ≡ true → AreApart 0 ls →
      first_fault (filter (is_rest ls) ls) ≡ fold (λ first zone. earlier first (fault_of zone.read)) (parted_lines ls).outside (parted_lines ls).zones
  rest_first nested apart = by_lines (filter is_outside ls) refl (filter begins_zone ls) refl
    where
      some : if_empty rest_lines ≡ None → first_fault rest_lines ≡ zones_after (filter begins_zone ls) (first_there (filter is_outside ls))
      some e = rest-least nested apart e

      by_lines : (others : List Placed) → filter is_outside ls ≡ others → (zones : List Placed) → filter begins_zone ls ≡ zones →
          first_fault rest_lines ≡ zones_after zones (fault_outside others zones)
      by_lines [] e [] f = ap first_fault (none-of rest_lines (no-rest e f))
      by_lines [] e (z ∷ zs) f =
          let two = in-filter begins_zone ls z (subst (λ (xs : List Placed). IsIn z xs) (sym f) (inl refl)) in
          let here = some-one rest_lines z (filter-in (is_rest ls) ls z two.0 (zone-rest ls h z two.0 two.1)) in
          some here ∙ (λ i. zones_after (f i) (first_there (e i)))
      by_lines (k ∷ ks) e zones f =
          let two = in-filter is_outside ls k (subst (λ (xs : List Placed). IsIn k xs) (sym e) (inl refl)) in
          let here = some-one rest_lines k (filter-in (is_rest ls) ls k two.0 (outside-rest ls h k two.0 two.1)) in
          some here ∙ (λ i. zones_after (f i) (first_there (e i)))
