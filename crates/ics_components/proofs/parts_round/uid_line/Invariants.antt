use Rattle.std.proofs.Common.{◌≡◌, ◌++◌, length}
use Rattle.std.specs.Prelude.{codes}
use Rattle.ics_components.specs.EventLines.{as_text}
use Rattle.ics_components.proofs.parts_round.uid_line.Given as goal

abbrev pub invariant-loop-rest : goal.invariant-loop-rest
invariant-loop-rest l = l.line.items ++ as_text l.rest ≡ codes "UID:" ++ as_text l.fn.text

abbrev pub decreases-loop-rest : goal.decreases-loop-rest
decreases-loop-rest l = length l.rest
