use Rattle.std.proofs.Common.{◌≡◌, ◌&&◌, List, [], ◌∷◌, refl, sym, ap, ◌∙◌, rules, tests}
use Rattle.std.specs.List.{list_all}
use Rattle.std.proofs.lemmas.Iterator.{YieldsList-from_slice}
use Rattle.std.proofs.lemmas.Iterator.Search.{all_from_yields_List}
use Rattle.ics_fields.specs.Ordinals.{lists_none, all_list_none}
use Rattle.ics_fields.specs.declared.ordinals.Ordinals.{Ordinals}
use Rattle.ics_period.proofs.AbsentLemmas.{no-numbers}
use Rattle.ics_period.proofs.effective.has_no_numbers.Goals as goal

-- each of some parts lists nothing
all-each : (ps : List Ordinals) → list_all lists_none ps ≡ all_list_none ps
all-each [] = refl
all-each (p ∷ ps) = ap (λ t. lists_none p && t) (all-each ps)

pub returns-clause-value : goal.returns-clause-value
returns-clause-value c =
    let numbered = c.args.numbered.now in
    all_from_yields_List lists_none _ _ _ c.all.ensures.ran (YieldsList-from_slice numbered (cc)) (λ x b q k. search (rules, tests)) ∙ all-each numbered

pub returns-clause-empty : goal.returns-clause-empty
returns-clause-empty c = λ none. no-numbers 7 c.args.numbered.now c.type_inv.numbered (sym (returns-clause-value c) ∙ none)
