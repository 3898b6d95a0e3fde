-- The table of faults reads the lines beside a line as a component has them that is being built.
use Rattle.std.proofs.lemmas.Bool.Decides.{nat_tests}
use Rattle.std.proofs.Common.{arith, ◌≡◌, ◌≢◌, ℕ, suc, Bool, true, false, List, [], ◌∷◌, map, refl, ◌∙◌, ◌||◌, cond, Some}
use Rattle.std.specs.Prelude.{length, find, filter, not, ◌==◌, is_some, option_map}
use Rattle.std.specs.List.{list_any}
use Rattle.ics_text.specs.Bytes.{upper}
use Rattle.ics_text.specs.ContentLines.{Parts}
use Rattle.ics_fields.specs.Observances.{ObservanceSaid}
use Rattle.ics_components.specs.declared.component.Component.{Component}
use Rattle.ics_components.specs.declared.component.Component.TheVariants as component
use Rattle.ics_components.specs.declared.component.Context.{Context}
use Rattle.ics_components.specs.declared.component.Context.TheVariants as context
use Rattle.ics_components.specs.declared.fault.FaultKind.{FaultKind}
use Rattle.ics_components.specs.declared.fault.FaultKind.TheVariants as kind
use Rattle.ics_components.specs.declared.frame.Frame.{Frame}
use Rattle.ics_components.specs.declared.name.Name.{Name}
use Rattle.ics_components.specs.declared.name.Name.TheVariants as name
use Rattle.ics_components.specs.Components.{component_of, is_zone_context}
use Rattle.ics_components.specs.Names.{same_name}
use Rattle.ics_components.specs.PlacedLines.{Placed, Open, named, context_of, closes, begins_observance, calendar_of, lines_in, is_named, has, first_of}
use Rattle.ics_components.specs.PlacedLines.{all_named, first_named}
use Rattle.ics_components.specs.PlacedLines.{name_on}
use Rattle.ics_components.specs.Faults.{Plain, reading_in, Judged, Beside, faulty, beside_by, stands, kinds}
pub use Rattle.ics_components.specs.Builders.{collected_of, zone_of, observance_of, builder_at}
use Rattle.ics_components.specs.Lines.{beside_in, context_at, least_fault, fault_in}
use Rattle.ics_components.specs.Observances.{observance_by, begins_in_zone}
use Rattle.ics_components.proofs.NameLemmas.{component_name-of, context-in-outside}

-- the observances that begin on the lines, in a file of all these lines
abbrev pub own : List Placed → Placed → ObservanceSaid
own whole l = observance_by (lines_in l.number whole)

abbrev pub parts : List Placed → List Placed → List ObservanceSaid
parts whole ls = map (own whole) (filter begins_in_zone ls)

pub any-part : (whole ls : List Placed) → list_any begins_in_zone ls ≡ not (length (parts whole ls) == 0)
any-part whole [] = refl
any-part whole (l ∷ ls) = let again = any-part whole ls in grind (arith, nat_tests)

-- the innermost component of a path; below all there is none
abbrev pub top_component : List Open → Component
top_component [] = component.Other []
top_component (c ∷ cs) = component_of c.name

-- the frame that a path and the lines directly in its innermost component stand for
abbrev pub frame_of : List Placed → List Open → List Placed → Frame
frame_of whole path ls =
    record { component = top_component path; calendar = calendar_of path; builder = builder_at (parts whole ls) ls (context_of path) }

-- the time zone on whose lines an END stands has an observance exactly where one has begun there
abbrev pub IsAsked : List Placed → List Open → List Placed → Type 0
IsAsked whole path ls = is_zone_context (context_of path) ≡ true → list_any begins_observance ls ≡ not (length (parts whole ls) == 0)

-- a line has the name exactly where the first such line says something
pub has-first : {X : Type 0} (f : Placed → X) (n : Name) (ls : List Placed) → is_some (option_map f (first_named n ls)) ≡ has n ls
has-first f n [] = refl
has-first f n (k ∷ ks) = by_test (has-first f n ks) (is_named n k)
  where
    by_test : is_some (option_map f (first_named n ks)) ≡ has n ks → (t : Bool) →
        is_some (option_map f (first_of (cond t (k ∷ all_named n ks) (all_named n ks)))) ≡ t || has n ks
    by_test again true = refl
    by_test again false = again

-- where the lines of a component stand, by what is collected of it
context-is : (os : List ObservanceSaid) (ls : List Placed) (q : Context) → q ≢ context.Outside → context_at (builder_at os ls q) ≡ q
context-is os ls context.Outside o = absurd (o refl)
context-is os ls _ o = refl

pub context-at : (whole ls : List Placed) (c : Open) (cs : List Open) →
    context_at (builder_at (parts whole ls) ls (context_of (c ∷ cs))) ≡ context_of (c ∷ cs)
context-at whole ls c cs = context-is (parts whole ls) ls (context_of (c ∷ cs)) (context-in-outside (context_of cs) (component_of c.name))

-- A LINE AS IT IS JUDGED, of these parts.
abbrev judged_at : Context → Name → Parts → ℕ → Bool → Judged
judged_at q n v depth closes = record { context = q; name = n; params = v.params; value = v.value; depth = depth; closes = closes }

-- its faults are the same of the lines beside it and of what is collected of them
module _ (whole ls : List Placed) (v : Parts) (depth : ℕ) (t : Bool) where
  beside-same : (k : FaultKind) (q : Context) (n : Name) →
      (is_zone_context q ≡ true → list_any begins_observance ls ≡ not (length (parts whole ls) == 0)) →
      faulty k (beside_by ls) (judged_at q n v depth t) ≡ faulty k (beside_in (builder_at (parts whole ls) ls q)) (judged_at q n v depth t)
  beside-same kind.NoObservance context.Zone n asked = rw (asked refl)
  beside-same kind.ObservanceField context.Zone name.Tzid asked = simp has-first
  beside-same kind.ObservanceField context.Zone _ asked = grind (arith, has-first)
  beside-same kind.ObservanceField context.Observance name.Dtstart asked = simp has-first
  beside-same kind.ObservanceField context.Observance _ asked = grind (arith, has-first)
  beside-same kind.ZoneRule context.Observance n asked = simp has-first
  beside-same kind.MissingUid context.Event n asked = refl
  beside-same kind.MissingStart context.Event n asked = simp has-first
  beside-same kind.BadEnd context.Event n asked = simp has-first
  beside-same kind.Repeated context.Event name.Uid asked = simp has-first
  beside-same kind.Repeated context.Event _ asked = grind (arith, has-first)
  beside-same kind q n asked = refl

end-reading : (q : Context) (p w : List ℕ) → reading_in q name.End p w ≡ Plain
end-reading context.Event p w = refl
end-reading context.Observance p w = refl
end-reading _ p w = refl

-- WHAT THE TABLE ASKS of each line: of a BEGIN how many components are open, of an END whether it matches, and of any other line neither.
module _ (b : Beside) (q : Context) (v : Parts) (depth : ℕ) (t : Bool) where
  begin-asks : (k : FaultKind) → faulty k b (judged_at q name.Begin v depth t) ≡ faulty k b (judged_at q name.Begin v depth false)
  begin-asks kind.BadLine = refl
  begin-asks _ = refl

  end-asks : (k : FaultKind) →
      faulty k b (judged_at q name.End v depth t) ≡ faulty k b (judged_at q name.End (record { name = []; params = []; value = [] }) 1 t)
  end-asks kind.BadLine = refl
  end-asks _ = let here = end-reading q v.params v.value in let there = end-reading q [] [] in cc

  line-asks : (n : Name) → same_name n name.Begin ≡ false → same_name n name.End ≡ false → (k : FaultKind) →
      faulty k b (judged_at q n v depth t) ≡ faulty k b (judged_at q n v 1 false)
  line-asks n e f kind.BadLine = refl
  line-asks n e f _ = grind arith

find-same : {X : Type 0} (p q : X → Bool) (ks : List X) → ((k : X) → p k ≡ q k) → find p ks ≡ find q ks
find-same p q [] h = refl
find-same p q (k ∷ ks) h = rw (h k, find-same p q ks h)

-- THE LEAST FAULT ON A LINE, of the table and of the pass.
module _ (whole : List Placed) (path : List Open) (number : ℕ) (v : Parts) (ls : List Placed) (asked : IsAsked whole path ls) where
  -- what stands on the line, of what is collected of the lines beside it
  placed-same : (k : FaultKind) →
      stands k ls (record { number = number; content = Some v; path = path })
      ≡ faulty k (beside_in (builder_at (parts whole ls) ls (context_of path)))
      (judged_at (context_of path) (named v) v (length path) (closes path (map upper v.value)))
  unfolding name_on
  placed-same kind.BadLine = refl
  placed-same k = beside-same whole ls v (length path) (closes path (map upper v.value)) k (context_of path) (named v) asked

pub least-same : (whole : List Placed) (path : List Open) (number : ℕ) (v : Parts) (ls : List Placed) → IsAsked whole path ls →
    find (λ k. stands k ls (record { number = number; content = Some v; path = path })) kinds
    ≡ fault_in (named v) v (frame_of whole path ls) (length path)
unfolding least_fault
least-same whole [] number v ls asked = find-same _ _ kinds (placed-same whole [] number v ls asked)
least-same whole (c ∷ cs) number v ls asked = find-same _ _ kinds (placed-same whole (c ∷ cs) number v ls asked) ∙ by_name (named v)
  where
    q : Context
    q = context_of (c ∷ cs)

    b : Beside
    b = beside_in (builder_at (parts whole ls) ls (context_of (c ∷ cs)))

    t : Bool
    t = closes (c ∷ cs) (map upper v.value)

    by_name : (n : Name) → find (λ k. faulty k b (judged_at q n v (suc (length cs)) t)) kinds ≡ fault_in n v (frame_of whole (c ∷ cs) ls) (suc (length cs))
    by_name name.Begin = rw (context-at whole ls c cs) (find-same _ _ kinds (begin-asks b q v (suc (length cs)) t))
    by_name name.End = rw (context-at whole ls c cs, component_name-of c.name) (find-same _ _ kinds (end-asks b q v (suc (length cs)) t))
    by_name n = rw (context-at whole ls c cs) (find-same _ _ kinds (line-asks b q v (suc (length cs)) t n refl refl))
