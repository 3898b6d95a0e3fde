use Rattle.std.proofs.Common.{◌≡◌, ◌∙◌, ◌/◌, ap, sym}
use Rattle.ics_period.specs.Candidates.{lets_date}
use Rattle.ics_rule.specs.Inner.OpenPeriods.{per_day}
use Rattle.ics_rule.proofs.OpenLemmas.{day_seconds, day_in, day_out}
use Rattle.ics_rule.proofs.open_periods.open_in_day.Goals as goal
use Rattle.ics_rule.proofs.open_periods.open_in_day.Goals.{After-lets_date}

-- whether the day is let in
own : (c : After-lets_date) → c.lets_date.result ≡ lets_date c.args.search.now.parts.now (c.args.from / per_day c.args.search.now.parts.now.frequency)
own c = c.lets_date.ensures ∙ ap (λ x. lets_date c.args.search.now.parts.now (c.args.from / x)) (ap (λ x. 86_400 / x) c.seconds_of-per_day.ensures.value
    ∙ (day_seconds c.args.search.now.parts.now.frequency c.requires.fine c.requires.unit).1)

pub returns-then-lets_date : goal.returns-then-lets_date
returns-then-lets_date c = day_in c.args.search.now.parts.now c.args.search.now.first c.requires.order c.requires.day c.steps_let_in.result
    (sym (own (goal.at.returns-then-lets_date c).After-lets_date) ∙ c.if-lets_date.true) c.steps_let_in.ensures

pub returns-else-lets_date : goal.returns-else-lets_date
returns-else-lets_date c = day_out c.args.search.now.parts.now c.args.search.now.first c.requires.order c.requires.day
    (sym (own (goal.at.returns-else-lets_date c).After-lets_date) ∙ c.if-lets_date.false)
