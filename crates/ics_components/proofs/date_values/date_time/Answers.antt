use Rattle.std.proofs.Common.{◌∙◌, ap}
use Rattle.ics_components.specs.Lines.{stamp_judged}
use Rattle.ics_components.proofs.DateValueLemmas.{date_time-is}
use Rattle.ics_components.proofs.date_values.date_time.Goals as goal

pub returns : goal.returns
returns c = c.stamp.ensures.judged ∙ ap stamp_judged (date_time-is c.args.zoned c.args.text.now c.if-text-eq8.false)
