-- Several parts of a file are as one of all their events, without a fault of the first round if none of them has one.
use Rattle.std.proofs.Common.{◌≡◌, Bool, true, false, List, [], ◌∷◌, flat_map, fold, refl, sym, ap, ◌∙◌, cond, Option, Some, None, Result, Ok, Err}
use Rattle.std.proofs.Common.{⊎_elim}
use Rattle.std.specs.Prelude.{is_none, nat_le}
use Rattle.std.specs.List.{Contains}
use Rattle.ics_components.specs.declared.fault.Fault.{Fault}
use Rattle.ics_components.specs.EventLines.{all_events, is_event, zones_named}
use Rattle.ics_components.specs.FirstFault.{first_fault}
use Rattle.ics_components.specs.ParsedFileSeen.{ParsedFileSeen}
use Rattle.ics_components.specs.PartFaults.{earlier}
use Rattle.ics_components.specs.Parted.{component_seen, parted_lines}
use Rattle.ics_components.specs.PlacedLines.{Placed, innermost}
use Rattle.ics_components.proofs.PlacedApart.{AreParted}
use Rattle.ics_calendar.specs.Parts.{Part, lines_of, parts_of}
use Rattle.ics_calendar.specs.Inner.PartsRead.{fault_beside, fault_needed, fault_read}
use Rattle.ics_calendar.proofs.OneEach.{part-within}
use Rattle.ics_calendar.proofs.OneUid.{contains-in, was-flattened, was-kept}
use Rattle.ics_calendar.proofs.PartFirst.{IsPart, part_first}
use Rattle.ics_calendar.proofs.PartLaws.{at-cons, here, no-element, there}

is-part-of : (ls : List Placed) (part : Part) → ((e : Placed) → Contains part e → Contains (all_events ls) e) → IsPart ls part
is-part-of ls [] h = tt
is-part-of ls (e ∷ es) h =
    let was = was-kept is_event ls e (h e (here e es)) in
    ((contains-in ls e was.1, was.0), is-part-of ls es (λ k m. h k (there e es k m)))

-- a part is some events of the file
pub part-is : (ls : List Placed) (part : Part) → Contains (parts_of ls) part → IsPart ls part
part-is ls part k = is-part-of ls part (λ e m. part-within ls part e k m)

pub none-is : (o : Option Fault) → is_none o ≡ true → o ≡ None
none-is None e = refl
none-is (Some fault) e = cc

-- THE EARLIEST of some faults is none, if and only if none is one.
neither : (a b : Option Fault) → earlier a b ≡ None → (a ≡ None) × (b ≡ None)
neither None b e = (refl, e)
neither (Some f) None e = cc
neither (Some f) (Some g) e = by_test (nat_le f.line g.line) e
  where
    by_test : (t : Bool) → cond t (Some f) (Some g) ≡ None → (Some f ≡ None) × (Some g ≡ None)
    by_test true e = cc
    by_test false e = cc

module _ {X : Type 0} (fault : X → Option Fault) where
  abbrev earliest : Option Fault → List X → Option Fault
  earliest first xs = fold (λ first x. earlier first (fault x)) first xs

  pub none-of : (first : Option Fault) (xs : List X) → earliest first xs ≡ None → (first ≡ None) × ((x : X) → Contains xs x → fault x ≡ None)
  none-of first [] e = (e, λ x k. absurd (no-element x k))
  none-of first (y ∷ ys) e =
      let later = none-of (earlier first (fault y)) ys e in
      let both = neither first (fault y) later.0 in
      (both.0, λ x k. ⊎_elim (λ (same : y ≡ x). ap fault (sym same) ∙ both.1) (later.1 x) (at-cons y ys x k))

  pub of-none : (xs : List X) → ((x : X) → Contains xs x → fault x ≡ None) → earliest None xs ≡ None
  of-none [] h = refl
  of-none (y ∷ ys) h = ap (λ first. earliest first ys) (h y (here y ys)) ∙ of-none ys (λ x k. h x (there y ys x k))

abbrev pub needed_by : List Placed → Placed → Option Fault
needed_by ls event = fault_needed (parted_lines ls) (component_seen ls event)

-- SEVERAL PARTS as one
abbrev pub joined : List Part → Part
joined parts = flat_map (λ part. part) parts

abbrev pub AreAmong : List Placed → List Part → Type 0
AreAmong ls parts = (part : Part) → Contains parts part → Contains (parts_of ls) part

abbrev pub AreFree : List Placed → List Part → Type 0
AreFree ls parts = (part : Part) → Contains parts part → first_fault (lines_of ls part) ≡ None

pub joined-is : (ls : List Placed) (parts : List Part) → AreAmong ls parts → IsPart ls (joined parts)
joined-is ls parts among =
    is-part-of ls (joined parts)
    (λ e m. let was = was-flattened (λ part. part) parts e m in part-within ls was.0 e (among was.0 was.1) was.2)

module _ (ls : List Placed) (are : AreParted ls) where
  -- no event of a part without a fault needs what has one
  pub none-needed : (part : Part) → IsPart ls part → first_fault (lines_of ls part) ≡ None → (event : Placed) → Contains part event →
      needed_by ls event ≡ None
  none-needed part is free event k =
      (none-of (needed_by ls) None part
      (sym (part_first ls are.in_place are.apart part is are.nested event (contains-in part event k)) ∙ free)).1 event k

  pub needed-none : (part : Part) → IsPart ls part → ((event : Placed) → Contains part event → needed_by ls event ≡ None) →
      (event : Placed) → Contains part event → first_fault (lines_of ls part) ≡ None
  needed-none part is none event k =
      part_first ls are.in_place are.apart part is are.nested event (contains-in part event k) ∙ of-none (needed_by ls) part none

  module _ (parts : List Part) (among : AreAmong ls parts) (free : AreFree ls parts) where
    pub none-joined : (event : Placed) → Contains (joined parts) event → needed_by ls event ≡ None
    none-joined event k =
        let was = was-flattened (λ part. part) parts event k in
        none-needed was.0 (part-is ls was.0 (among was.0 was.1)) (free was.0 was.1) event was.2

    -- PARTS WITHOUT A FAULT are one without a fault.
    pub joined-free : (event : Placed) → Contains (joined parts) event → first_fault (lines_of ls (joined parts)) ≡ None
    joined-free event k = needed-none (joined parts) (joined-is ls parts among) none-joined event k

-- an event that needs no fault is read
pub is-read : (ls : List Placed) (event : Placed) → needed_by ls event ≡ None → (read : ParsedFileSeen) × ((component_seen ls event).read ≡ Ok read)
is-read ls event e = by_read (component_seen ls event).read refl e
  where
    by_read : (r : Result ParsedFileSeen Fault) → (component_seen ls event).read ≡ r → needed_by ls event ≡ None →
        (read : ParsedFileSeen) × ((component_seen ls event).read ≡ Ok read)
    by_read (Ok read) is e = (read, is)
    by_read (Err fault) is e =
        let own = (neither (fault_read (component_seen ls event).read) (fault_beside (parted_lines ls) (innermost event.path) (zones_named ls event)) e).0 in
        let never : Some fault ≡ None = sym (ap fault_read is) ∙ own in
        cc
