use Rattle.std.proofs.Common.{◌∙◌, ◌+◌, ◌-◌, ◌%◌, pos, ap, arith}
use Rattle.jiff_core.specs.Calendar.{days_in_year}
use Rattle.ics_period.proofs.DateLemmas.{lets_week-fields}
use Rattle.ics_period.proofs.WeekDays.{week_in_year}
use Rattle.ics_period.proofs.date.lets_week.Goals as goal

-- the fourth day is in the same year
pub returns-then-ahead-place : goal.returns-then-ahead-place
returns-then-ahead-place c =
    let own = c.requires.fields.year_day in
    let start = c.index.ensures.value in
    c.lets_week_at.ensures
    ∙ week_in_year c.args.parts.now c.args.index (c.args.fields.now.year_day + 3 - (c.args.index + (12 - c.index.result)) % 7)
    (omega (arith, c.if-place-ahead.true, own, start)) (omega (arith, own, start)) c.if-ahead-place.true
    (c.year_length-len.ensures ∙ ap (λ y. days_in_year (pos y)) c.requires.fields.year)

pub returns : goal.returns
returns c = grind (arith, lets_week-fields)
