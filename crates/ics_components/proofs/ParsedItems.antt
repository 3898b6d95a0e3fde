-- What is gathered of lines without a fault is what is gathered of the events and time zones among them, one after the other.
use Rattle.std.proofs.Common.{◌≡◌, ℕ, Bool, true, false, List, [], ◌∷◌, ◌++◌, filter, flat_map, refl, sym, ap, ◌∙◌, cond, Option, Some, None, Result, Ok, Err}
use Rattle.std.specs.Prelude.{is_none}
use Rattle.ics_components.specs.declared.fault.Fault.{Fault}
use Rattle.ics_components.specs.FirstFault.{first_fault}
use Rattle.ics_components.specs.ParsedFileSeen.{ParsedFileSeen}
use Rattle.ics_components.specs.ParsedFiles.{nothing_parsed}
use Rattle.ics_components.specs.Parted.{begins_part, fault_there, part_in}
use Rattle.ics_components.specs.Pass.{unless}
use Rattle.ics_components.specs.PlacedLines.{Placed}
use Rattle.ics_components.proofs.Blocks.{and_parsed}
use Rattle.ics_components.proofs.ChosenLines.{AreChosen, chosen_gathered}
use Rattle.ics_components.proofs.Folds.{item_read, items_read, then_read}
use Rattle.ics_components.proofs.PassLemmas.{parsed_from}

abbrev pub parsed_in : Result ParsedFileSeen Fault → ParsedFileSeen
parsed_in (Ok had) = had
parsed_in (Err fault) = nothing_parsed

abbrev pub each_parsed : List Placed → List Placed → ParsedFileSeen
each_parsed lines [] = nothing_parsed
each_parsed lines (e ∷ es) = and_parsed (parsed_in (item_read lines e)) (each_parsed lines es)

-- a line of none adds nothing
nothing-in : (lines : List Placed) (e : Placed) → begins_part e ≡ false → parsed_in (item_read lines e) ≡ nothing_parsed
nothing-in lines e b = rw b (by_part (is_none (part_in e.path)) (fault_there e))
  where
    by_part : (t : Bool) (o : Option Fault) → parsed_in (cond t (unless o nothing_parsed) (Ok nothing_parsed)) ≡ nothing_parsed
    by_part true None = refl
    by_part true (Some f) = refl
    by_part false o = refl

and-nothing : (had : ParsedFileSeen) → and_parsed nothing_parsed had ≡ had
and-nothing had = refl

pub parts_alone : (lines es : List Placed) → each_parsed lines es ≡ each_parsed lines (filter begins_part es)
parts_alone lines [] = refl
parts_alone lines (e ∷ es) = by_test (begins_part e) refl (parts_alone lines es)
  where
    by_test : (t : Bool) → begins_part e ≡ t → each_parsed lines es ≡ each_parsed lines (filter begins_part es) →
        and_parsed (parsed_in (item_read lines e)) (each_parsed lines es) ≡ each_parsed lines (cond t (e ∷ filter begins_part es) (filter begins_part es))
    by_test true b more = ap (and_parsed (parsed_in (item_read lines e))) more
    by_test false b more =
        ap (λ had. and_parsed had (each_parsed lines es)) (nothing-in lines e b) ∙ and-nothing (each_parsed lines es) ∙ more

abbrev as_ok : ParsedFileSeen → Result ParsedFileSeen Fault
as_ok had = Ok had

ok-is : (a b : ParsedFileSeen) → as_ok a ≡ as_ok b → a ≡ b
ok-is a b e = cc

pub items_parsed : (lines es : List Placed) (had : ParsedFileSeen) → items_read lines es ≡ as_ok had → had ≡ each_parsed lines es
items_parsed lines [] had e = sym (ok-is nothing_parsed had e)
items_parsed lines (e ∷ es) had h = by_reads (λ x y. items_parsed lines es x y) (item_read lines e) (items_read lines es) refl refl h
  where
    by_reads : ((x : ParsedFileSeen) → items_read lines es ≡ as_ok x → x ≡ each_parsed lines es) → (a b : Result ParsedFileSeen Fault) → item_read lines e ≡ a →
        items_read lines es ≡ b → then_read a b ≡ as_ok had → had ≡ and_parsed (parsed_in (item_read lines e)) (each_parsed lines es)
    by_reads later (Err f) b i j h = cc
    by_reads later (Ok one) (Err f) i j h = cc
    by_reads later (Ok one) (Ok more) i j h =
        sym (ok-is (and_parsed one more) had h) ∙ (λ n. and_parsed (sym (ap parsed_in i) n) (later more j n))

-- WHAT IS GATHERED of whole components without a fault.
pub chosen_parsed : (taken : Placed → Bool) (whole : ℕ → Bool) (ls : List Placed) → AreChosen taken whole ls → first_fault (filter taken ls) ≡ None →
    parsed_from (filter taken ls) nothing_parsed [] (filter taken ls) ≡ each_parsed ls (filter begins_part (filter taken ls))
chosen_parsed taken whole ls chosen none =
    items_parsed ls (filter taken ls) (parsed_from (filter taken ls) nothing_parsed [] (filter taken ls)) (chosen_gathered taken whole ls chosen none)
    ∙ parts_alone ls (filter taken ls)

-- in lists
pub parsed_events : (lines es : List Placed) → (each_parsed lines es).events ≡ flat_map (λ e. (parsed_in (item_read lines e)).events) es
parsed_events lines [] = refl
parsed_events lines (e ∷ es) = ap (λ xs. (parsed_in (item_read lines e)).events ++ xs) (parsed_events lines es)

pub parsed_zones : (lines es : List Placed) → (each_parsed lines es).zones ≡ flat_map (λ e. (parsed_in (item_read lines e)).zones) es
parsed_zones lines [] = refl
parsed_zones lines (e ∷ es) = ap (λ xs. (parsed_in (item_read lines e)).zones ++ xs) (parsed_zones lines es)

pub parsed_checks : (lines es : List Placed) → (each_parsed lines es).checks ≡ flat_map (λ e. (parsed_in (item_read lines e)).checks) es
parsed_checks lines [] = refl
parsed_checks lines (e ∷ es) = ap (λ xs. (parsed_in (item_read lines e)).checks ++ xs) (parsed_checks lines es)
