use Rattle.std.proofs.Common.{◌+◌, ◌-◌, pos, refl, arith}
use Rattle.jiff_core.proofs.CalendarLemmas.{days_in_year_bounds}
use Rattle.ics_period.proofs.WeekLemmas.{year_day_is}
use Rattle.ics_period.proofs.NearLemmas.{IsYearOf, year_around, are_near}
use Rattle.ics_period.proofs.near_days.NearDays.of_year.Goals as goal
use Rattle.ics_period.proofs.near_days.NearDays.of_year.Goals.{After-year_length-len}

pub overflow_sub-first : goal.overflow_sub-first
overflow_sub-first c = let place = year_day_is c.args.day in omega (arith, place, c.civil_at-fields.ensures.year_day)

around : (c : After-year_length-len) → IsYearOf c.args.day (c.args.day + 1 - c.civil_at-fields.result.year_day) c.year_length-len.result
around c = let place = year_day_is c.args.day in
    year_around c.civil_at-fields.result c.args.day c.civil_at-fields.ensures c.requires (omega (arith, place, c.civil_at-fields.ensures.year_day))
    c.year_length-len.ensures

pub days_near-requires-clause-span : goal.days_near-requires-clause-span
days_near-requires-clause-span c = (around (goal.at.days_near-requires-clause-span c).After-year_length-len).span

pub returns-clause-near : goal.returns-clause-near
returns-clause-near c = let bounds = days_in_year_bounds (pos c.civil_at-fields.result.year) in
    are_near c.year_length-len.result refl (omega (arith, bounds.0, c.year_length-len.ensures)) c.days_near.ensures

pub returns-clause-high : goal.returns-clause-high
returns-clause-high c = (around (goal.at.returns-clause-high c).After-year_length-len).high
