use Rattle.std.proofs.Common.{◌∙◌, ◌+◌, sym}
use Rattle.std.proofs.lemmas.Bool.{lt-ltb}
use Rattle.ics_fields.specs.Days.{year_of}
use Rattle.ics_period.proofs.MonthDays.{week_let_in, number_listed}
use Rattle.ics_period.proofs.NearLemmas.{both, month_listed}
use Rattle.ics_period.proofs.near_days.days_near.Goals as goal

pub returns-then-not-is_empty : goal.returns-then-not-is_empty
returns-then-not-is_empty c = λ k l d. c.days_near_weeks.ensures.all k l (week_let_in c.args.parts.now (c.args.first + k) d)

pub returns-then-is_empty : goal.returns-then-is_empty
returns-then-is_empty c = λ k l d. c.days_by_number.ensures k ∙ both (lt-ltb k c.args.len l)
    (number_listed c.args.parts.now (year_of c.args.first) k c.requires.span.1.0 c.requires.span.1.1 (lt-ltb k c.args.len l) d)

pub returns : goal.returns
returns c = λ k l d. c.add_listed_days.ensures k ∙ both (lt-ltb k c.args.len l)
    (month_listed c.args.parts.now (c.args.first + k) (sym c.is_empty-2.ensures ∙ c.if-is_empty.false) d)
