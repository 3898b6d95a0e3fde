use Rattle.std.proofs.Common.{pos, arith}
use Rattle.jiff_core.proofs.CalendarLemmas.{days_of_months_more, days_of_months_mono, days_of_months_all}
use Rattle.ics_period.proofs.days.month_run.Goals as goal

pub returns-clause-within : goal.returns-clause-within
returns-clause-within c = λ y span.
    let more = days_of_months_more (pos y) c.args.month c.requires.low in
    let most = days_of_months_mono (pos y) c.args.month 12 c.requires.high in
    let all = days_of_months_all (pos y) in
    let start = c.days_before_month-start.ensures.value y span.1.1 in
    let size = c.days_of_one.ensures y span.1.1 in
    omega (arith, more, most, all, start, size, span.1.1)
