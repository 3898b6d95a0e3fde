use Rattle.std.proofs.Common.{arith}
use Rattle.ics_period.proofs.DateLemmas.{weekday_in, weekday_out}
use Rattle.ics_period.proofs.date.lets_date.Goals as goal

pub returns-then-names_weekdays_alone : goal.returns-then-names_weekdays_alone
returns-then-names_weekdays_alone c = grind (arith, weekday_in c.args.parts.now c.args.index)

pub returns-then-has_no_number : goal.returns-then-has_no_number
returns-then-has_no_number c = grind (arith, weekday_out c.args.parts.now c.args.index)
