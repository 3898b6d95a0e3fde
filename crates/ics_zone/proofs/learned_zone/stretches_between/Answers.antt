use Rattle.ics_zone.specs.ZoneSaid.{jiff_said, said_moment, said_offset}
use Rattle.ics_zone.proofs.learned_zone.stretches_between.Goals as goal
use Rattle.ics_zone.proofs.learned_zone.stretches_between.Goals.{then-not-is_empty+then-stretch-next, else-not-is_empty}

-- one more, or none where memory is refused or there is none
pub loop-preserved : goal.loop-preserved
loop-preserved c = elim c.if-not-is_empty.branch [
  | then-not-is_empty+then-stretch-next w ↦ rw w.known-is
      (w.keep.ensures (said_offset (jiff_said c.args.zone.now)) (said_moment (jiff_said c.args.zone.now)) c.loop.invariant c.stretch-stretch.ensures)
  | else-not-is_empty w ↦ rw w.known-is c.loop.invariant
]
