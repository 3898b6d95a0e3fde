use Rattle.ics_fields.specs.Locals.{seconds_at}
use Rattle.ics_zone.specs.ZoneSaid.{display_said}
use Rattle.ics_zone.proofs.JiffLemmas.{picked_moment}
use Rattle.ics_zone.proofs.laws.compatible_moment.Goals as goal

pub returns : goal.returns
returns c = λ zone same.
    picked_moment zone (display_said c.args.display.now) same (seconds_at c.args.local.day c.args.local.second) c.moment.result
    c.moment.ensures.means c.moment.ensures.value
