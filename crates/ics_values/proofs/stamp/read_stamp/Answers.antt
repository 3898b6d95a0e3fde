use Rattle.std.proofs.Common.{◌≡◌, ◌≤◌, true, rules, sym, ap, ◌∙◌, subst, arith}
use Rattle.ics_values.specs.Digits.{number_at}
use Rattle.ics_values.specs.Stamps.{year_of, is_stamp_year, stamp_day, IsDayOf}
use Rattle.ics_fields.specs.Days.{IsStampDay}
use Rattle.ics_values.proofs.StampLemmas.{stamp_day-said, date_of-stamp, is_its_day, day_number_range, stamp_years}
use Rattle.ics_values.proofs.stamp.read_stamp.Goals as goal

pub returns-then-is_stamp_year-clause-date : goal.returns-then-is_stamp_year-clause-date
returns-then-is_stamp_year-clause-date c =
    let text = c.args.text.now in
    let said = c.in-Some.ensures.value in
    let year : year_of text ≤ 9999 = omega arith in
    subst (IsDayOf text) (sym (ap stamp_day said.1 ∙ stamp_day-said c.args.zoned text)) (is_its_day text (date_of-stamp text said.0) year)

pub returns-then-is_stamp_year-clause-range : goal.returns-then-is_stamp_year-clause-range
returns-then-is_stamp_year-clause-range c =
    let text = c.args.text.now in
    let said = c.in-Some.ensures.value in
    let near : is_stamp_year (year_of text) ≡ true = search rules in
    let years = stamp_years (year_of text) near in
    subst IsStampDay (sym (ap stamp_day said.1 ∙ stamp_day-said c.args.zoned text))
    (day_number_range (year_of text) (number_at text 4 6) (number_at text 6 8) (date_of-stamp text said.0) years.0 years.1)
