use Rattle.std.proofs.Common.{◌≡◌, drop}
use Rattle.ics_values.specs.RuleTexts.{by_word}
use Rattle.ics_values.proofs.part_name.by_word.Given as goal

abbrev pub invariant-loop-row : goal.invariant-loop-row
invariant-loop-row g l = by_word l.text l.table ≡ by_word l.text (drop l.row-index l.table)
