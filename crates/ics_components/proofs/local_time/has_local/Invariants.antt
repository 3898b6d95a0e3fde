use Rattle.std.proofs.Common.{◌≡◌, length}
use Rattle.ics_components.specs.EventLines.{has_local}
use Rattle.ics_components.proofs.local_time.has_local.Given as goal

abbrev pub invariant-loop-rest : goal.invariant-loop-rest
invariant-loop-rest l = has_local l.rest ≡ has_local l.fn.value

abbrev pub decreases-loop-rest : goal.decreases-loop-rest
decreases-loop-rest l = length l.rest
