use Rattle.ics_zone.proofs.stretch.Stretch.of_bounds.Goals as goal

pub returns-then-bounds : goal.returns-then-bounds
returns-then-bounds c = λ offset moment bounds. c.none.ensures offset moment
