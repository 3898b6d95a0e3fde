use Rattle.std.proofs.Common.{arith}
use Rattle.ics_period.specs.Candidates.{lets_date}
use Rattle.ics_rule.proofs.RestLemmas.{days_none}
use Rattle.ics_rule.proofs.open_periods.open_of_days.Goals as goal

pub returns-then-next_open_day-end : goal.returns-then-next_open_day-end
returns-then-next_open_day-end c =
    let none = days_none c.args.search.now.parts.now c.args.search.now.first (lets_date c.args.search.now.parts.now) c.requires.order
    (λ e l h. c.next_open_day.ensures.none e l (omega (arith, h, c.if-next_open_day-end.true))) in
    omega (arith, none)
