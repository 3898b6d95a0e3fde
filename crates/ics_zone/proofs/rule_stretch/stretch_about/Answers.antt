use Rattle.jiff_tz.specs.PosixText.{tz_view}
use Rattle.ics_zone.specs.ZoneSaid.{ZoneSaid, said_moment, said_offset}
use Rattle.ics_zone.proofs.rule_stretch.stretch_about.Goals as goal

pub returns-in_default : goal.returns-in_default
returns-in_default c = c.none.ensures (said_offset (ZoneSaid.ByRule (tz_view c.args.rule))) (said_moment (ZoneSaid.ByRule (tz_view c.args.rule)))
