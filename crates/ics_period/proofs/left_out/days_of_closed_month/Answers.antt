use Rattle.std.proofs.Common.{◌∙◌, sym, arith}
use Rattle.ics_period.proofs.DayWalkLemmas.{month_out}
use Rattle.ics_period.proofs.left_out.days_of_closed_month.Goals as goal

pub returns-else-lets-clause-none : goal.returns-else-lets-clause-none
returns-else-lets-clause-none c = λ j h. month_out c.args.parts.now j c.civil_at-fields.ensures
    (omega (arith, h, c.from.ensures, c.month_length.ensures)) (sym c.lets.ensures ∙ c.if-lets.false)
