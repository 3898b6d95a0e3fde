use Rattle.std.proofs.Common.{◌∙◌, ◌<◌, sym, subst, arith}
use Rattle.ics_period.specs.Candidates.{lets_date}
use Rattle.ics_period.proofs.DateLemmas.{weekday_in, weekday_out}
use Rattle.ics_period.proofs.DayWalkLemmas.{one_out}
use Rattle.ics_period.proofs.left_out.days_left_out.Goals as goal

pub returns-then-names_weekdays_alone-clause-some : goal.returns-then-names_weekdays_alone-clause-some
returns-then-names_weekdays_alone-clause-some c = λ none. grind (arith, weekday_in c.args.parts.now c.args.day)

pub returns-then-has_no_number-clause-none : goal.returns-then-has_no_number-clause-none
returns-then-has_no_number-clause-none c = λ j h. one_out (lets_date c.args.parts.now) c.args.day (grind (arith, weekday_out c.args.parts.now c.args.day))
    c.days_of_closed_month.ensures.none j (subst (λ x. j < x) c.max.ensures h)

pub returns-then-is_empty-clause-none : goal.returns-then-is_empty-clause-none
returns-then-is_empty-clause-none c = λ j h. one_out (lets_date c.args.parts.now) c.args.day (sym c.lets_fields.ensures ∙ c.if-lets_fields.false)
    c.days_of_closed_month-then-is_empty.ensures.none j (subst (λ x. j < x) c.max-then-is_empty.ensures h)

pub returns-clause-none : goal.returns-clause-none
returns-clause-none c = λ j h. one_out (lets_date c.args.parts.now) c.args.day (sym c.lets_fields.ensures ∙ c.if-lets_fields.false)
    (λ i l. c.days_unlisted.ensures.none c.args.day c.civil_at-fields.ensures i (omega (arith, l, c.from.ensures)))
    j (subst (λ x. j < x) c.max-2.ensures h)
