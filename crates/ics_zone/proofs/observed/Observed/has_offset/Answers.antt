use Rattle.std.proofs.lemmas.Int.{to_z-of_z}
use Rattle.ics_zone.proofs.ZoneSteps.{all_sound}
use Rattle.ics_zone.proofs.JumpLemmas.{overridden_other}
use Rattle.ics_zone.proofs.observed.Observed.has_offset.Goals as goal

pub overrides-requires : goal.overrides-requires
overrides-requires c = rw c.deref.ensures.value (all_sound _ _ c.self.invariant.asked)

pub returns-then-overrides-clause-value : goal.returns-then-overrides-clause-value
returns-then-overrides-clause-value c =
    let known = rw c.self.view_is at c.self.invariant in
    let over = rw c.deref.ensures.value at (simp (to_z-of_z, c.ranges.moment, c.ranges.offset) at c.overrides.ensures) in
    overridden_other c.args.self.now known.some c.args.moment c.args.offset
    (over c.if-overrides.true c.args.self.now.said.items known.asked c.requires)
