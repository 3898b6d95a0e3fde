use Rattle.ics_starts.specs.Inner.ByLocal.{exdate_locals}
use Rattle.ics_starts.proofs.ByLocalLemmas.{ArePlaced}
use Rattle.ics_starts.proofs.by_local.exdates_by_local.Given as goal

-- those of the values so far
abbrev pub invariant-loop-place : goal.invariant-loop-place
invariant-loop-place l = ArePlaced l.place (exdate_locals l.event) l.places.items
