use Rattle.std.proofs.Common.{None, sym, subst}
use Rattle.ics_listing.proofs.LeadLemmas.{all-pushed}
use Rattle.ics_series.specs.Inner.Kept.{AreKept, IsKeptIn}
use Rattle.ics_series.proofs.kept.add_kept.Goals as goal

pub returns-in_err-push : goal.returns-in_err-push
returns-in_err-push c = λ files display are.
    subst (AreKept files display) (sym c.in_err-push.ensures.items) (c.loop-place.invariant files display are)

pub loop-place-preserved : goal.loop-place-preserved
loop-place-preserved c = λ files display are.
    subst (AreKept files display) (sym c.in_ok-push.ensures.items)
    (all-pushed (IsKeptIn files display) c.loop-place.kept.items None (c.loop-place.invariant files display are) tt)
