use Rattle.std.proofs.Common.{arith, ◌∙◌, ◌+◌, ◌&&◌, nat_lt, ap, sym}
use Rattle.std.proofs.lemmas.Bool.{or_parts}
use Rattle.ics_period.specs.Candidates.{lets_date}
use Rattle.ics_period.specs.Runs.{is_in_month}
use Rattle.ics_period.proofs.MonthDays.{month_exact, month_candidate, narrowed}
use Rattle.ics_period.proofs.days.leave_let_in.Goals as goal

pub returns-then-is_empty : goal.returns-then-is_empty
returns-then-is_empty c = grind (arith, month_exact)

pub returns : goal.returns
returns c = λ k. c.those_let_in.ensures k ∙ ap (λ x. x && lets_date c.args.parts.now (c.args.first + k)) (c.requires.listed k)
    ∙ narrowed (nat_lt k c.args.len) (is_in_month c.args.parts.now (c.args.first + k)) (lets_date c.args.parts.now (c.args.first + k))
    (λ h d. month_candidate c.args.parts.now (c.args.first + k) c.requires.months
    (sym c.is_empty.ensures ∙ (or_parts c.is_empty.result c.is_empty-2.result c.if-is_empty.false).0) d)
