use Rattle.std.proofs.Common.{◌≡◌, ◌+◌, length}
use Rattle.std.specs.Option.{option_copied, option_map_or}
use Rattle.ics_values.specs.RuleTexts.{pieces, without_last}
use Rattle.ics_values.specs.Inner.RuleDrafts.{walk, pieces_behind, part_taken, no_parts}
use Rattle.ics_values.proofs.rule_text.draft_of.Given as goal

abbrev pub invariant-parts : goal.invariant-parts
invariant-parts l = walk part_taken l.draft (pieces_behind 59 (option_copied l.behind)) ≡ walk part_taken no_parts (pieces 59 (without_last l.text))

abbrev pub decreases-parts : goal.decreases-parts
decreases-parts l = option_map_or (λ text. length text + 1) (option_copied l.behind) 0
