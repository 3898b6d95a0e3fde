use Rattle.std.proofs.Common.{rules, arith, length}
use Rattle.std.proofs.lemmas.Int.{ints}
use Rattle.ics_zone.proofs.EachSecondLemmas.{in_span, told_more}
use Rattle.ics_zone.proofs.seconds.OffsetEachSecond.add.Goals as goal

pub loop-span-preserved : goal.loop-span-preserved
loop-span-preserved c =
    let l = c.loop-span in
    let within = in_span (length l.self.offsets.items) c.seconds_after-first.ensures.after c.seconds_after-count.ensures.after
    c.seconds_after-count.ensures.before l.invariant.begun (omega (arith, c.loop-span-test.true)) in
    record {
      same = l.invariant.same;
      begun = omega (arith, l.invariant.begun);
      told = λ offset told steady. told_more offset _ l.self.offsets.items _ _ (search rules) (l.invariant.told offset told steady)
          (steady _ (omega (arith, ints, within.0)) (omega (arith, ints, within.1)));
    }

pub returns-in_err-push : goal.returns-in_err-push
returns-in_err-push c = λ offset told steady. rw c.in_err-push.ensures.items (c.loop-span.invariant.told offset told steady)
