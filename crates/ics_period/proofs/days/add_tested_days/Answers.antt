use Rattle.std.proofs.Common.{◌∙◌, ◌+◌, ◌&&◌, nat_lt, ap}
use Rattle.std.proofs.lemmas.Bool.{lt-ltb, ltb-true}
use Rattle.ics_fields.specs.Sets.{contains_wide}
use Rattle.ics_fields.specs.Days.{year_of}
use Rattle.ics_period.specs.Candidates.{lets_date, lets_wide_place}
use Rattle.ics_period.proofs.MonthDays.{candidates, narrowed, week_let_in, number_listed}
use Rattle.ics_period.proofs.days.add_tested_days.Goals as goal

pub returns-else-is_empty : goal.returns-else-is_empty
returns-else-is_empty c = λ k. c.those_let_in-else-is_empty.ensures k
    ∙ candidates (contains_wide c.days_near_weeks.result k) (lets_date c.args.parts.now (c.args.first + k)) (nat_lt k c.args.len)
    (λ h. lt-ltb k c.args.len (c.days_near_weeks.ensures.within k h))
    (λ l h. c.days_near_weeks.ensures.all k (ltb-true k c.args.len l) (week_let_in c.args.parts.now (c.args.first + k) h))

pub returns-then-is_empty : goal.returns-then-is_empty
returns-then-is_empty c = λ k. c.those_let_in.ensures k ∙ ap (λ x. x && lets_date c.args.parts.now (c.args.first + k)) (c.days_by_number.ensures k)
    ∙ narrowed (nat_lt k c.args.len) (lets_wide_place c.args.parts.now.year_days (k + 1) c.args.len) (lets_date c.args.parts.now (c.args.first + k))
    (λ l h. number_listed c.args.parts.now (year_of c.args.first) k c.requires.span.1.0 c.requires.span.1.1 l h)
