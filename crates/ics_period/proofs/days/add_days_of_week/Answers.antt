use Rattle.std.proofs.Common.{inl, inr, ◌≡◌, ◌∙◌, ◌+◌, ◌&&◌, not, nat_lt, ap, sym, arith}
use Rattle.std.proofs.lemmas.Bool.Decides.{nat_tests}
use Rattle.std.proofs.lemmas.Bool.{or_parts, not-false}
use Rattle.ics_fields.specs.Sets.{contains_wide}
use Rattle.ics_period.specs.Candidates.{lets_date}
use Rattle.ics_period.proofs.DateLemmas.{day_of_week}
use Rattle.ics_period.proofs.RunLemmas.{tested}
use Rattle.ics_period.proofs.ScanLemmas.{none_has}
use Rattle.ics_period.proofs.days.add_days_of_week.Goals as goal
use Rattle.ics_period.proofs.days.add_days_of_week.Goals.{then-contains, else-contains}

pub loop-k-init : goal.loop-k-init
loop-k-init c = grind (arith, nat_tests, none_has)

pub loop-k-preserved : goal.loop-k-preserved
loop-k-preserved c = λ m.
    let named = or_parts c.is_empty.result (not c.names_weekdays_alone.result) c.if-is_empty-names_weekdays_alone.false in
    let test = day_of_week {q = c.args.parts.now} record {
      weekly = c.requires.frequency;
      alone = sym c.names_weekdays_alone.ensures ∙ not-false c.names_weekdays_alone.result named.1;
      some = sym c.is_empty.ensures ∙ named.0;
      named = c.named-named.ensures;
    } (c.args.first + c.loop-k.k) c.weekday_at.ensures.value c.weekday_at.ensures.small c.contains.ensures in
    tested (λ k. lets_date c.args.parts.now (c.args.first + k)) c.loop-k.k m test (c.loop-k.invariant m) (elim c.if-contains.branch [
      | then-contains w ↦ inl (w.if-contains.true, ap (λ ws. contains_wide ws m) w.days-is ∙ w.insert.ensures.members m)
      | else-contains w ↦ inr (w.if-contains.false, ap (λ ws. contains_wide ws m) w.days-is)
    ])

pub returns : goal.returns
returns c = λ m. let e : c.loop-k.k ≡ c.args.len = omega arith in c.loop-k.invariant m ∙ ap (λ k. nat_lt m k && lets_date c.args.parts.now (c.args.first + m)) e
