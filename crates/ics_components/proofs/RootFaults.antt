-- The first fault of some events and time zones with BEGIN, END and VERSION of their calendars is the least of any of theirs that cover all.
use Rattle.std.proofs.Common.{◌≡◌, ◌⊎◌, inl, inr, ℕ, Bool, true, false, ◌&&◌, ◌||◌, ◌==◌, List, [], ◌∷◌, filter, refl, sym, ap, ◌∙◌, cond}
use Rattle.std.proofs.Common.{Option, Some, None, ⊎_elim}
use Rattle.std.specs.Prelude.{codes, is_none, option_map, if◌then◌else◌}
use Rattle.std.specs.Str.{bytes_eq}
use Rattle.std.proofs.lemmas.Bool.{eqb-true}
use Rattle.ics_text.specs.ContentLines.{Parts}
use Rattle.ics_components.specs.declared.component.Context.{Context}
use Rattle.ics_components.specs.declared.component.Context.TheVariants as context
use Rattle.ics_components.specs.declared.fault.Fault.{Fault}
use Rattle.ics_components.specs.declared.fault.FaultKind.TheVariants.{OldVersion}
use Rattle.ics_components.specs.declared.name.Name.{Name}
use Rattle.ics_components.specs.declared.name.Name.TheVariants as name
use Rattle.ics_components.specs.Components.{is_calendar_context}
use Rattle.ics_components.specs.EventLines.{is_well_nested}
use Rattle.ics_components.specs.FirstFault.{first_fault}
use Rattle.ics_components.specs.Names.{same_name}
use Rattle.ics_components.specs.Parted.{AreInPlace, begins_part, fault_there, part_in}
use Rattle.ics_components.specs.PlacedLines.{Open, Placed, component, context_of, in_calendar, innermost, is_begin, is_end, is_named, name_on, value}
use Rattle.ics_components.proofs.ChosenLines.{if_empty}
use Rattle.ics_components.proofs.ItemFaults.{AreApart, Has, IsCovered, IsIn, IsItem, chosen_least, has_item, item_fault, item_faults, item_of, least}
use Rattle.ics_components.proofs.Opened.{begins_taken, one-begin, within, within-part}
use Rattle.ics_components.proofs.Order.{inside}
use Rattle.ics_components.proofs.PartLines.{AreRoots, IsFramed, IsTaken, calendar-path, framed-taken, root-of, rooted-taken, roots_chosen}
use Rattle.ics_components.proofs.PartLines.{taken-is, takes}
use Rattle.ics_components.proofs.PartPaths.{in-part}
use Rattle.ics_components.proofs.Paths.{in_calendar_by}
use Rattle.ics_components.proofs.RestFaults.{either-of, never-both, open-at, outside-fault, own-line, part-begins, right-or}

-- the fault of a VERSION line of a calendar
abbrev pub version_fault : Placed → Option Fault
version_fault l =
    if in_calendar l && (is_named name.Version l && bytes_eq (value l) (codes "1.0")) then Some (record { line = l.number; kind = OldVersion }) else None

calendar-is : (q : Context) → is_calendar_context q ≡ true → q ≡ context.Calendar
calendar-is context.Calendar e = refl
calendar-is _ e = cc

has-content : (o : Option Parts) → (same_name (name_on o) name.End || same_name (name_on o) name.Version) ≡ true → is_none o ≡ false
unfolding name_on
has-content None e = cc
has-content (Some c) e = refl

begin-content : (o : Option Parts) → same_name (name_on o) name.Begin ≡ true → is_none o ≡ false
unfolding name_on
begin-content None e = cc
begin-content (Some c) e = refl

-- BEGIN of a calendar has no fault, and END and VERSION have none but that of an old one.
framed-fault : (l : Placed) → in_calendar l ≡ true → (is_end l || is_named name.Version l) ≡ true → fault_there l ≡ version_fault l
framed-fault l i e = rw (has-content l.content e, calendar-is (context_of l.path) i) (by_test (is_named name.Version l && bytes_eq (value l) (codes "1.0")))
  where
    by_test : (t : Bool) →
        option_map {U = Fault} (λ kind. record { line = l.number; kind = kind }) (cond t (Some OldVersion) None)
        ≡ cond t (Some (record { line = l.number; kind = OldVersion })) None
    by_test true = refl
    by_test false = refl

begin-fault : (l : Placed) → is_begin l ≡ true → is_calendar_context (context_of (inside l)) ≡ true → fault_there l ≡ None
begin-fault l b e =
    let empty = calendar-path l e in
    let named : bytes_eq (component l) (codes "VCALENDAR") ≡ true =
    sym (in_calendar_by (record { name = component l; begun = l.number }))
    ∙ ap (λ p. is_calendar_context (context_of (record { name = component l; begun = l.number } ∷ p))) (sym empty) ∙ e in
    rw (begin-content l.content b, empty, b, named) refl

-- directly in a calendar nothing is open that is an event or a time zone
in-no-part : (path : List Open) → is_calendar_context (context_of path) ≡ true → part_in path ≡ None
in-no-part path e = by_part (part_in path) refl
  where
    by_part : (o : Option ℕ) → part_in path ≡ o → o ≡ None
    by_part None p = refl
    by_part (Some b) p = never-both (is_calendar_context (context_of path)) e ((in-part path b p).0)

no-part : (l : Placed) → is_begin l ≡ false → begins_part l ≡ false
no-part l b = by_test (begins_part l) refl
  where
    by_test : (t : Bool) → begins_part l ≡ t → t ≡ false
    by_test true e = never-both (is_begin l) (part-begins [] tt l e) b
    by_test false e = refl

frame-no-begin : (n : Name) → (same_name n name.End || same_name n name.Version) ≡ true → same_name n name.Begin ≡ false
frame-no-begin name.Begin e = cc
frame-no-begin _ e = refl

-- THE FAULTS that are needed: of a root, or of a VERSION line of a calendar.
pub record IsOfRoot (roots : Placed → Bool) (ls : List Placed) (f : Fault) : Type 0 where
  pub root : Placed
  pub among : IsIn root ls
  pub chosen : roots root ≡ true
  pub faulty : item_fault ls root ≡ Some f

pub record IsOfVersion (calendars : ℕ → Bool) (ls : List Placed) (f : Fault) : Type 0 where
  pub line : Placed
  pub among : IsIn line ls
  pub inside : in_calendar line ≡ true
  pub chosen : calendars (innermost line.path) ≡ true
  pub faulty : version_fault line ≡ Some f

module _ (ls : List Placed) (h : AreInPlace 0 [] ls) (roots : Placed → Bool) (calendars : ℕ → Bool) (are : AreRoots roots calendars ls)
    (faults : List (Option Fault)) where
  abbrev took : Placed → Bool
  took = takes roots calendars ls

  version-named : (l : Placed) (f : Fault) → version_fault l ≡ Some f → is_named name.Version l ≡ true
  version-named l f e = by_test (in_calendar l) (is_named name.Version l) e
    where
      by_test : (a b : Bool) → cond (a && (b && bytes_eq (value l) (codes "1.0"))) (Some (record { line = l.number; kind = OldVersion })) None
          ≡ Some f → b ≡ true
      by_test a true e = refl
      by_test true false e = cc
      by_test false false e = cc

  framed-item : (l : Placed) → IsFramed calendars l → item_fault ls l ≡ version_fault l
  framed-item l f =
      outside-fault ls h l (no-part l (frame-no-begin (name_on l.content) f.2)) (in-no-part l.path f.0) ∙ framed-fault l f.0 f.2

  needed-among : (g : Fault) → IsOfRoot roots ls g ⊎ IsOfVersion calendars ls g → Has (item_faults ls (filter took ls)) g
  needed-among g (inl r) =
      has_item took (item_fault ls) r.root ls g r.among (rooted-taken ls roots calendars r.root r.root r.among r.chosen (own-line ls h r.root)) r.faulty
  needed-among g (inr v) =
      let f : IsFramed calendars v.line =
      (v.inside, v.chosen, right-or (is_end v.line) (is_named name.Version v.line) (version-named v.line g v.faulty)) in
      has_item took (item_fault ls) v.line ls g v.among (framed-taken ls roots calendars v.line f) (framed-item v.line f ∙ v.faulty)

  module _ (by_root : (f : Fault) → IsOfRoot roots ls f → IsCovered faults f) (by_version : (f : Fault) → IsOfVersion calendars ls f → IsCovered faults f) where
    covers-outside : (e : Placed) (f : Fault) → IsIn e ls → item_fault ls e ≡ Some f → begins_part e ≡ false → IsTaken roots calendars ls e → IsCovered faults f
    covers-outside e f i x b (inl r) =
        ⊎_elim (λ t.
        let same = one-begin ls 0 [] h r.root e r.among i (part-begins ls h r.root part) (eqb-true e.number r.root.number t) in
        never-both (begins_part e) (ap begins_part same ∙ part) b) (λ t.
        let inside = within-part ls h e.path (open-at ls h e i) r.root r.among part t in
        let none : item_fault ls e ≡ None = rw (b, inside) refl in cc) (either-of (e.number == r.root.number) (within r.root.number e.path) r.of)
      where
        part : begins_part r.root ≡ true
        part = are.parts r.root r.among r.chosen
    covers-outside e f i x b (inr (inl n)) =
        let calendar = are.calendar e i n in
        let none : item_fault ls e ≡ None =
        outside-fault ls h e b (ap part_in (calendar-path e calendar)) ∙ begin-fault e (are.begin e i n) calendar in cc
    covers-outside e f i x b (inr (inr t)) =
        by_version f (record { line = e; among = i; inside = t.0; chosen = t.1; faulty = sym (framed-item e t) ∙ x })

    needed-covers : (f : Fault) → Has (item_faults ls (filter took ls)) f → IsCovered faults f
    needed-covers f has = by_begin (begins_part it.item) refl
      where
        it : IsItem took (item_fault ls) ls f
        it = item_of took (item_fault ls) ls f has

        taken : IsTaken roots calendars ls it.item
        taken = taken-is ls roots calendars it.item it.chosen

        by_begin : (t : Bool) → begins_part it.item ≡ t → IsCovered faults f
        by_begin true b =
            by_root f (record {
              root = it.item;
              among = it.among;
              chosen = root-of ls h roots calendars are it.item it.among b taken;
              faulty = it.faulty;
            })
        by_begin false b = covers-outside it.item f it.among it.faulty b taken

    -- THEIR FIRST FAULT.
    pub roots_least : is_well_nested ls ≡ true → AreApart 0 ls → if_empty (filter took ls) ≡ None →
        ((g : Fault) → Has faults g → IsOfRoot roots ls g ⊎ IsOfVersion calendars ls g) → first_fault (filter took ls) ≡ least faults
    roots_least nested apart some needed =
        chosen_least took (begins_taken took ls) ls (roots_chosen ls h roots calendars are nested) apart some faults (λ g t. needed-among g (needed g t))
        needed-covers
