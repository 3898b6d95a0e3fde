-- Parts that are read one after another say what they say together.
use Rattle.std.proofs.Common.{◌≡◌, ◌<◌, ℕ, Bool, true, false, ◌&&◌, ◌||◌, List, [], ◌∷◌, map, Option, Some, None, Result, Ok, Err, refl}
use Rattle.std.proofs.Common.{arith, inl, inr, lit<, not, fold, option_and_then, if◌then◌else◌}
use Rattle.std.specs.List.{list_any, list_all}
use Rattle.std.proofs.Math.Bool.{or-false}
use Rattle.std.proofs.lemmas.Bool.{cases_Bool, or_right}
use Rattle.std.proofs.lemmas.Bool.Decides.{nat_tests}
use Rattle.ics_values.specs.declared.rule_text.Draft.{Draft}
use Rattle.ics_values.specs.declared.part_name.ListName.{ListName}
use Rattle.ics_values.specs.declared.part_name.ListName.TheVariants.{BySecond}
use Rattle.ics_values.specs.declared.part_name.PartName.{PartName}
use Rattle.ics_values.specs.declared.part_name.PartName.TheVariants as part
use Rattle.ics_values.specs.declared.rule_text.RuleFault.{RuleFault}
use Rattle.ics_values.specs.declared.rule_text.RuleFault.TheVariants.{BadRule, NumberTooLarge}
use Rattle.ics_fields.specs.Sets.{contains, with_number}
use Rattle.ics_fields.specs.RuleParts.{RuleParts}
use Rattle.ics_values.specs.RuleTexts.{Part, pieces, row, fits, fits_list, part_of, without_last, is_part, is_name, has_part, none_twice}
use Rattle.ics_values.specs.Rules.{with_item, with_part, is_large, has_large_number, rule_of}
use Rattle.ics_values.specs.Inner.RuleDrafts.{walk, item_taken, named_taken, part_taken, no_parts}
use Rattle.ics_fields.proofs.SetLemmas.{contains-with_number, has_none}

-- the items of a list are all in order, or one is not
pub walk-items : (list : ListName) (rule : RuleParts) (items : List (List ℕ)) →
    walk (item_taken list) rule items ≡ (if list_all (fits_list list) items then Some (fold (with_item list) rule items) else None)
walk-items list rule [] = refl
walk-items list rule (item ∷ items) = elim (cases_Bool (fits_list list item)) [
  | inl e ↦ rw e (walk-items list (with_item list rule item) items)
  | inr e ↦ rw e refl
]

row_small : (name : PartName) → row name < 64
row_small (part.List BySecond) = lit< tt
row_small _ = lit< tt

-- the name was read
abbrev is_seen : ℕ → Option PartName → Bool
is_seen seen None = false
is_seen seen (Some name) = contains seen (row name)

-- the parts are in order, and no name of them was read
abbrev are_new : ℕ → List Part → Bool
are_new seen ps = list_all (λ p. not (is_seen seen p.name) && is_part p) ps

is_seen-with_number : (seen : ℕ) (name : PartName) (other : Option PartName) →
    is_seen (with_number (row name) seen) other ≡ is_name name other || is_seen seen other
is_seen-with_number seen name None = refl
is_seen-with_number seen name (Some other) = contains-with_number seen (row name) (row other) (row_small name)

-- those that are new once a name was read
are_new-with_number : (seen : ℕ) (name : PartName) (ps : List Part) →
    are_new (with_number (row name) seen) ps ≡ not (list_any (λ q. is_name name q.name) ps) && are_new seen ps
are_new-with_number seen name [] = refl
are_new-with_number seen name (p ∷ ps) =
    rw (is_seen-with_number seen name p.name, are_new-with_number seen name ps) (grind (arith, nat_tests))

all_new : (ps : List Part) → are_new 0 ps ≡ list_all is_part ps
all_new [] = refl
all_new (p ∷ ps) = rw (unseen p.name, all_new ps) refl
  where
    unseen : (name : Option PartName) → is_seen 0 name ≡ false
    unseen None = refl
    unseen (Some name) = has_none (row name)

-- the name was read, or one of the parts that are still to be read has it
abbrev given : ℕ → List Part → PartName → Bool
given seen ps name = contains seen (row name) || has_part name ps

given-with_number : (seen : ℕ) (name other : PartName) (ps : List Part) →
    given (with_number (row name) seen) ps other ≡ contains seen (row other) || (is_name other (Some name) || has_part other ps)
given-with_number seen name other ps =
    rw (contains-with_number seen (row name) (row other) (row_small name)) (grind (arith, nat_tests))

-- all is in order: a part has FREQ, and not both UNTIL and COUNT stand there
abbrev in_order : ℕ → List Part → Bool
in_order seen ps =
    are_new seen ps && none_twice ps && given seen ps part.Freq && not (given seen ps part.Until && given seen ps part.Count)

regroup : (new named once : Bool) → (new && (not named && once)) ≡ ((not named && new) && once)
regroup new named once = grind (arith, nat_tests)

in_order-part : (seen : ℕ) (name : PartName) (value : List ℕ) (ps : List Part) → contains seen (row name) ≡ false → fits name value ≡ true →
    in_order seen (record { name = Some name; value = value } ∷ ps) ≡ in_order (with_number (row name) seen) ps
in_order-part seen name value ps s f =
    rw (
      s,
      f,
      are_new-with_number seen name ps,
      given-with_number seen name part.Freq ps,
      given-with_number seen name part.Until ps,
      given-with_number seen name part.Count ps,
      regroup (are_new seen ps) (list_any (λ q. is_name name q.name) ps) (none_twice ps),
    ) refl

-- what the parts that were read say together with those still to be read
abbrev told : Draft → List Part → Result RuleParts RuleFault
told d ps =
    if not (in_order d.seen ps) then Err BadRule
    else if d.too_large || has_large_number ps then Err NumberTooLarge
    else Ok (fold with_part d.parts ps)

-- what the finished draft says, or None where a part was refused
abbrev pub answer_of : Option Draft → Result RuleParts RuleFault
answer_of None = Err BadRule
answer_of (Some d) =
    if not (contains d.seen (row part.Freq) && not (contains d.seen (row part.Until) && contains d.seen (row part.Count))) then Err BadRule
    else if d.too_large then Err NumberTooLarge
    else Ok d.parts

-- one part more, by its name
told-part : (d : Draft) (name : Option PartName) (value : List ℕ) (ps : List Part) (rest : Draft → Option Draft)
    → ((e : Draft) → told e ps ≡ answer_of (rest e))
    → told d (record { name = name; value = value } ∷ ps) ≡ answer_of (option_and_then rest (named_taken name value d))
told-part d None value ps rest h = refl
told-part d (Some name) value ps rest h = elim (cases_Bool (contains d.seen (row name))) [
  | inl s ↦ rw s refl
  | inr s ↦ elim (cases_Bool (fits name value)) [
    | inr f ↦ rw (s, f) refl
    | inl f ↦ rw (in_order-part d.seen name value ps s f, s, f) (elim (cases_Bool (is_large (Some name) value)) [
      | inl l ↦ rw (l, or_right d.too_large true refl, ← h) refl
      | inr l ↦ rw (l, ← h) refl
    ])
  ]
]

-- parts that are read one after another
told-walk : (d : Draft) (texts : List (List ℕ)) → told d (map part_of texts) ≡ answer_of (walk part_taken d texts)
told-walk d [] = simp or-false
told-walk d (text ∷ texts) = told-part d (part_of text).name (part_of text).value (map part_of texts) _ (λ e. told-walk e texts)

-- a rule is the answer to the draft behind all parts
pub rule_of-walk : (text : List ℕ) {draft : Option Draft} → draft ≡ walk part_taken no_parts (pieces 59 (without_last text)) → rule_of text ≡ answer_of draft
unfolding rule_of
rule_of-walk text e = rw (← all_new (map part_of (pieces 59 (without_last text))), e) (told-walk no_parts (pieces 59 (without_last text)))
