use Rattle.std.proofs.Common.{◌∙◌, sym}
use Rattle.ics_zone.proofs.HourLemmas.{hours_of}
use Rattle.ics_zone.proofs.hours.Hours.of.Goals as goal

pub returns : goal.returns
returns c =
    hours_of c.args.rule.now c.args.local c.of-here.result c.of-next.result (λ n e. c.in_ok-hour.ensures n e ∙ sym (c.of-here.ensures n))
    (λ n e. c.in_ok-hour-2.ensures n e ∙ sym (c.of-next.ensures n))
