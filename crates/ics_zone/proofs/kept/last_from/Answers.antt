use Rattle.std.proofs.Common.{arith}
use Rattle.ics_zone.proofs.kept.last_from.Goals as goal

pub loop-next-preserved : goal.loop-next-preserved
loop-next-preserved c =
    let next = c.in-Some.ensures.next.0 in
    let is = c.number.ensures.value in
    record {
      known = c.look_from-in-Some.ensures.known c.args.bound (record {
        kept = rw is next.kept;
        before = omega (arith, next.in_bound, is, c.numbered.ensures.value);
        in_bound = c.loop-next.invariant.known.in_bound;
        none = c.loop-next.invariant.known.none;
      });
      own = c.look_from-in-Some.ensures.own;
      behind = c.look_from-in-Some.ensures.behind;
    }
