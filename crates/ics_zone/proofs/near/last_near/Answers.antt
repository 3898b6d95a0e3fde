use Rattle.std.proofs.Common.{◌-◌, ◌/◌, ◌*◌, arith}
use Rattle.ics_zone.proofs.NearLemmas.{last_of_day, last_through, none_of_end, none_through}
use Rattle.ics_zone.proofs.near.last_near.Goals as goal

pub returns-in-Some-last_second : goal.returns-in-Some-last_second
returns-in-Some-last_second c =
    let some = c.if-from-end.true in
    rw c.from.ensures
    (last_through c.args.rule.now c.loop-days.end c.args.bound _ c.loop-days.invariant.high c.loop-days.invariant.none
    (last_of_day c.args.rule.now ((c.loop-days.end - 1) / 86_400) c.in-Some.times c.in-Some.ensures c.loop-days.end c.in-Some-last_second.second
    (omega (arith, some)) (omega (arith, some)) c.in-Some-last_second.ensures))

pub loop-days-preserved : goal.loop-days-preserved
loop-days-preserved c =
    let some = c.if-from-end.true in
    record {
      high = omega (arith, c.loop-days.invariant.high);
      none = none_through c.args.rule.now ((c.loop-days.end - 1) / 86_400 * 86_400) c.loop-days.end c.args.bound
          (none_of_end c.args.rule.now ((c.loop-days.end - 1) / 86_400) c.in-Some.times c.in-Some.ensures c.loop-days.end (omega (arith, some))
          c.in_default-last_second.ensures)
          c.loop-days.invariant.none;
    }
