use Rattle.ics_zone.specs.ZoneOffsets.{zone_offset}
use Rattle.ics_zone.specs.Inner.ZoneBounds.{zone_short}
use Rattle.ics_zone.proofs.observed.Observed.answer_group.Goals as goal

pub returns : goal.returns
returns c = c.add_answers.ensures (zone_offset c.args.self.now.said.items) (zone_short c.args.self.now)
    (rw c.deref.ensures.value c.in_ok-spans.ensures) c.requires.answers
