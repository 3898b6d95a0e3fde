use Rattle.std.proofs.Common.{◌≡◌, true, sym}
use Rattle.ics_values.specs.Stamps.{is_date_time_form}
use Rattle.ics_values.proofs.StampLemmas.{is_date_time}
use Rattle.ics_values.proofs.period.read_half.Goals as goal

pub returns-in-Ok-clause-range : goal.returns-in-Ok-clause-range
returns-in-Ok-clause-range c =
    let text = c.args.text.now in
    let form : is_date_time_form text ≡ true = sym c.if-not-is_date_time_form.ensures in
    is_date_time c.args.zoned text c.in-Ok.stamp form c.in-Ok.ensures.value c.in-Ok.ensures.range
