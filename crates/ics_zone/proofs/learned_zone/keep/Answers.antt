use Rattle.std.proofs.Common.{is_ok}
use Rattle.ics_zone.proofs.LearnedLemmas.{stretch_pushed}
use Rattle.ics_zone.proofs.learned_zone.keep.Goals as goal

pub returns-then-saturating_sub-ge-DAY : goal.returns-then-saturating_sub-ge-DAY
returns-then-saturating_sub-ge-DAY c = λ offset moment known stretch.
    stretch_pushed c.args.known.now.items c.args.stretch (is_ok c.push.result) c.push.ensures.items known stretch
