use Rattle.std.proofs.Common.{◌≡◌, true, ◌&&◌, List, [], ◌∷◌, refl, sym, ap, ◌∙◌, rules, tests}
use Rattle.std.specs.List.{list_all}
use Rattle.std.proofs.lemmas.Iterator.{YieldsList-from_slice}
use Rattle.std.proofs.lemmas.Iterator.Search.{all_from_yields_List}
use Rattle.ics_fields.specs.Sets as sets
use Rattle.ics_fields.specs.Ordinals.{lists_none, all_list_none}
use Rattle.ics_fields.specs.declared.ordinals.Ordinals.{Ordinals}
use Rattle.ics_fields.proofs.ordinals.Weekdays.is_empty.Goals as goal

-- each of some parts lists nothing
all-each : (ps : List Ordinals) → list_all lists_none ps ≡ all_list_none ps
all-each [] = refl
all-each (p ∷ ps) = ap (λ t. lists_none p && t) (all-each ps)

pub returns-then-is_empty : goal.returns-then-is_empty
returns-then-is_empty c =
    let days = c.args.self.now in
    let plain : sets.is_empty days.plain ≡ true = sym c.is_empty.ensures ∙ c.if-is_empty.true in
    let all : c.all.result ≡ list_all lists_none days.numbered =
    all_from_yields_List lists_none _ _ _ c.all.ensures.ran (YieldsList-from_slice days.numbered (cc)) (λ x b q k. search (rules, tests)) in
    all ∙ all-each days.numbered ∙ ap (λ t. t && all_list_none days.numbered) (sym plain)
