use Rattle.std.proofs.Common.{◌≡◌, ◌+◌, length}
use Rattle.std.specs.Option.{option_copied, option_map_or}
use Rattle.ics_values.specs.RuleTexts.{pieces}
use Rattle.ics_values.specs.Inner.RuleDrafts.{walk, pieces_behind, item_taken}
use Rattle.ics_values.proofs.rule_text.take_items.Given as goal

abbrev pub invariant-items : goal.invariant-items
invariant-items l = walk (item_taken l.list) l.parts (pieces_behind 44 (option_copied l.behind)) ≡ walk (item_taken l.list) l.fn.parts (pieces 44 l.value)

abbrev pub decreases-items : goal.decreases-items
decreases-items l = option_map_or (λ text. length text + 1) (option_copied l.behind) 0
