use Rattle.std.proofs.Common.{ap, option_map}
use Rattle.jiff_tz.specs.PosixText.{dst_view, tz_view}
use Rattle.ics_zone.proofs.RuleStretchLemmas.{constant}
use Rattle.ics_zone.proofs.stretch.Stretch.of_rule.Goals as goal

pub returns-in-None : goal.returns-in-None
returns-in-None c =
    let short = c.args.rule.std_offset.in_range in
    constant (tz_view c.args.rule) _ (ap (option_map dst_view) c.in-None.is)
    (record { read = c.always.ensures.offset; shown = c.always.ensures.shown }) short
