use Rattle.std.proofs.Common.{◌∙◌, ◌&&◌, ap, sym}
use Rattle.ics_fields.specs.Sets.{contains_wide, is_empty}
use Rattle.ics_fields.specs.Days.{year_of}
use Rattle.ics_period.proofs.ScanLemmas.{none_has}
use Rattle.ics_period.proofs.MonthDays.{whole_year}
use Rattle.ics_period.proofs.days.add_days_of_year.Goals as goal

pub returns-then-is_empty : goal.returns-then-is_empty
returns-then-is_empty c = λ k. whole_year c.args.parts.now (year_of c.args.first) k
    record {
      goes = sym c.goes_by_months.ensures ∙ c.if-not-goes_by_months.false;
      yearly = c.requires.frequency;
      free = sym (ap (λ x. x && c.is_empty-2.result) c.is_empty.ensures ∙ ap (λ x. is_empty c.args.parts.now.months && x) c.is_empty-2.ensures)
          ∙ c.if-is_empty.true;
    } c.requires.span.1.0 c.requires.span.1.1 c.weekday_at.ensures.value
    (ap (λ ws. contains_wide ws k) c.requires.empty ∙ none_has k) (c.add_weekdays.ensures k)
