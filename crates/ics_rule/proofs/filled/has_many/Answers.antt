use Rattle.std.proofs.Common.{◌∙◌, sym, arith}
use Rattle.ics_rule.proofs.FilledLemmas.{none_from, day_open, day_closed}
use Rattle.ics_rule.proofs.filled.has_many.Goals as goal
use Rattle.ics_rule.proofs.filled.has_many.Goals.{then-lets_date+else-total-least, else-lets_date}

pub loop-day-init : goal.loop-day-init
loop-day-init c = record {
  low = omega arith;
  high = omega (arith, c.requires.order);
  total = sym (none_from c.args.parts.now c.args.from);
  few = omega (arith, c.requires.some);
}

pub loop-day-preserved : goal.loop-day-preserved
loop-day-preserved c = elim c.if-lets_date.branch [
  | then-lets_date+else-total-least w ↦ record {
    low = omega (arith, c.loop-day.invariant.low);
    high = omega (arith, c.loop-day-test.true);
    total = let more = day_open c.args.parts.now c.args.from c.loop-day.day c.loop-day.invariant.low (sym c.lets_date.ensures ∙ w.if-lets_date.true) in
        omega (arith, w.total-is, c.loop-day.invariant.total, c.requires.times, more);
    few = omega (arith, w.total-is, w.if-total-least.false);
  }
  | else-lets_date w ↦ record {
    low = omega (arith, c.loop-day.invariant.low);
    high = omega (arith, c.loop-day-test.true);
    total = let same = day_closed c.args.parts.now c.args.from c.loop-day.day (sym c.lets_date.ensures ∙ w.if-lets_date.false) in
        omega (arith, w.total-is, c.loop-day.invariant.total, same);
    few = omega (arith, w.total-is, c.loop-day.invariant.few);
  }
]
