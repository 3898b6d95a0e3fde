use Rattle.std.proofs.Common.{ℤ, List}
use Rattle.ics_starts.specs.Inner.ByLocal.{AreByLocal}
use Rattle.ics_starts.proofs.ByLocalLemmas.{AreFound}
use Rattle.ics_starts.proofs.by_local.near_known.Given as goal

-- those about the instants so far
abbrev pub invariant-loop-moment : goal.invariant-loop-moment
invariant-loop-moment l = (locals : List ℤ) → AreByLocal locals l.places → AreFound locals l.moment-index l.running l.near.items
