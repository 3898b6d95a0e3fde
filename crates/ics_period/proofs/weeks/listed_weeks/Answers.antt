use Rattle.std.proofs.Common.{◌∙◌, ◌-◌, ◌==◌, ◌||◌, ap, arith}
use Rattle.std.proofs.lemmas.Bool.Decides.{nat_tests}
use Rattle.ics_fields.specs.Sets.{contains}
use Rattle.ics_period.proofs.WeekDays.{weeks_more, weeks_done}
use Rattle.ics_period.proofs.weeks.listed_weeks.Goals as goal

pub loop-n-init : goal.loop-n-init
loop-n-init c = grind (arith, nat_tests)

pub loop-n-preserved : goal.loop-n-preserved
loop-n-preserved c = λ n l h. c.insert-in-Some.ensures.members n ∙ ap (λ x. (n == 54 - c.in-Some.n) || x) (c.insert.ensures.members n)
    ∙ weeks_more (contains c.args.weeks.now.front) (contains c.args.weeks.now.back) n l h (omega (arith, c.if-n-gt53.false))
    c.in-Some.ensures.next (c.loop-n.invariant n l h)

pub returns-then-n-gt53 : goal.returns-then-n-gt53
returns-then-n-gt53 c = λ n l h. weeks_done (contains c.args.weeks.now.front) (contains c.args.weeks.now.back) c.loop-n.from n l h
    (λ x low most. c.in-Some.ensures.next.least x low (omega (arith, most, c.if-n-gt53.true))) (c.loop-n.invariant n l h)

pub returns : goal.returns
returns c = λ n l h. weeks_done (contains c.args.weeks.now.front) (contains c.args.weeks.now.back) c.loop-n.from n l h
    (λ x low most. c.in_default.ensures.next x low) (c.loop-n.invariant n l h)
