use Rattle.std.proofs.Common.{◌≡◌, length, ℕ, ◌+◌, Option, Some, None, List, option_copied}
use Rattle.ics_text.specs.ContentLines.{value_among, param_of}
use Rattle.ics_text.specs.Inner.Pieces.{pieces_behind}
use Rattle.ics_text.proofs.param.param_of.Given as goal

abbrev left : Option (List ℕ) → ℕ
left None = 0
left (Some text) = length text + 1

abbrev pub invariant-texts : goal.invariant-texts
invariant-texts l = value_among l.name (pieces_behind 59 (option_copied l.behind)) ≡ param_of l.name l.fn.params

abbrev pub decreases-texts : goal.decreases-texts
decreases-texts l = left (option_copied l.behind)
