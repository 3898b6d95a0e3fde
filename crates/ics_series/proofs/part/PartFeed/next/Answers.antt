use Rattle.std.proofs.lemmas.Grind.{common_steps}
use Rattle.std.proofs.Common.{sym, subst, arith}
use Rattle.ics_continued.specs.Continued.{continued_left}
use Rattle.ics_listing.specs.Listing.{IsIn}
use Rattle.ics_series.specs.AgendaParts.{part_coming}
use Rattle.ics_series.proofs.part.PartFeed.next.Goals as goal

pub returns-in-Series-clause-near : goal.returns-in-Series-clause-near
returns-in-Series-clause-near c = λ o m.
    c.next-in-Series.ensures.near o
    (subst (λ s. IsIn o (continued_left s)) (sym c.deref_mut.ensures.value) (subst (λ p. IsIn o (part_coming p)) c.in-Series.is m))

pub returns-in-Singles-clause-near : goal.returns-in-Singles-clause-near
returns-in-Singles-clause-near c = grind (arith, common_steps)

pub returns-in-Singles-clause-ok : goal.returns-in-Singles-clause-ok
returns-in-Singles-clause-ok c = grind (arith, common_steps)

pub returns-in-Series-clause-ok : goal.returns-in-Series-clause-ok
returns-in-Series-clause-ok c = rw (c.in-Series.is, ← c.deref_mut.ensures.value) c.next-in-Series.ensures.ok
