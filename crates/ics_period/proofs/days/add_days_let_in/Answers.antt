use Rattle.std.proofs.Common.{sym, subst}
use Rattle.ics_fields.specs.declared.frequency.Frequency.TheVariants.{Yearly}
use Rattle.ics_period.specs.Runs.{IsSpan}
use Rattle.ics_period.proofs.MonthDays.{year_starts}
use Rattle.ics_period.proofs.days.add_days_let_in.Goals as goal

pub add_days_of_year-requires-clause-span : goal.add_days_of_year-requires-clause-span
add_days_of_year-requires-clause-span c =
    let own : IsSpan Yearly c.args.number c.args.first c.args.len =
    subst (λ f. IsSpan f c.args.number c.args.first c.args.len) c.in-Yearly.is c.requires.span in
    subst (λ y. IsSpan Yearly y c.args.first c.args.len) (sym (year_starts c.args.first c.args.number own.1.0)) own
