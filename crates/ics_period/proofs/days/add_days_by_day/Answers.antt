use Rattle.std.proofs.Common.{inl, inr, ◌≡◌, ◌∙◌, ◌+◌, ◌&&◌, nat_lt, ap, arith}
use Rattle.std.proofs.lemmas.Bool.Decides.{nat_tests}
use Rattle.ics_fields.specs.Sets.{contains_wide}
use Rattle.ics_period.specs.Candidates.{lets_date}
use Rattle.ics_period.proofs.RunLemmas.{tested}
use Rattle.ics_period.proofs.ScanLemmas.{none_has}
use Rattle.ics_period.proofs.days.add_days_by_day.Goals as goal
use Rattle.ics_period.proofs.days.add_days_by_day.Goals.{then-lets_date, else-lets_date}

pub loop-k-init : goal.loop-k-init
loop-k-init c = grind (arith, nat_tests, none_has)

pub loop-k-preserved : goal.loop-k-preserved
loop-k-preserved c = λ m. tested (λ k. lets_date c.args.parts.now (c.args.first + k)) c.loop-k.k m c.lets_date.ensures
    (c.loop-k.invariant m) (elim c.if-lets_date.branch [
      | then-lets_date w ↦ inl (w.if-lets_date.true, ap (λ ws. contains_wide ws m) w.days-is ∙ w.insert.ensures.members m)
      | else-lets_date w ↦ inr (w.if-lets_date.false, ap (λ ws. contains_wide ws m) w.days-is)
    ])

pub returns : goal.returns
returns c = λ m. let e : c.loop-k.k ≡ c.args.len = omega arith in c.loop-k.invariant m ∙ ap (λ k. nat_lt m k && lets_date c.args.parts.now (c.args.first + m)) e
