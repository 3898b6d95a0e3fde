use Rattle.std.proofs.Common.{inl, inr, ◌∙◌, ◌+◌, ap, arith}
use Rattle.std.proofs.lemmas.Bool.Decides.{nat_tests}
use Rattle.ics_fields.specs.Sets.{contains_wide}
use Rattle.ics_period.specs.Candidates.{lets_date}
use Rattle.ics_period.proofs.ScanLemmas.{none_has}
use Rattle.ics_period.proofs.MonthDays.{asked_more, asked_all}
use Rattle.ics_period.proofs.days.those_let_in.Goals as goal
use Rattle.ics_period.proofs.days.those_let_in.Goals.{then-lets_date, else-lets_date}

pub loop-k-init : goal.loop-k-init
loop-k-init c = grind (arith, nat_tests, none_has)

pub loop-k-preserved : goal.loop-k-preserved
loop-k-preserved c = λ k. asked_more (contains_wide c.args.some.now) (λ m. lets_date c.args.parts.now (c.args.first + m)) k
    c.in-Some.ensures.next c.lets_date.ensures (c.loop-k.invariant k) (elim c.if-lets_date.branch [
      | then-lets_date w ↦ inl (w.if-lets_date.true, ap (λ ws. contains_wide ws k) w.days-is ∙ w.insert.ensures.members k)
      | else-lets_date w ↦ inr (w.if-lets_date.false, ap (λ ws. contains_wide ws k) w.days-is)
    ])

pub returns : goal.returns
returns c = λ k. asked_all (contains_wide c.args.some.now) (λ m. lets_date c.args.parts.now (c.args.first + m)) c.loop-k.from k
    c.in_default.ensures.next (c.loop-k.invariant k)
