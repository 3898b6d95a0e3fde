use Rattle.std.proofs.Common.{arith}
use Rattle.std.proofs.lemmas.Int.{ints}
use Rattle.ics_starts.proofs.InstantLemmas.{late}
use Rattle.ics_starts.proofs.single.Single.occurrence.Goals as goal

pub invariant_of-result : goal.invariant_of-result
invariant_of-result c =
    let single = c.args.self.now in
    let end = c.finish in
    let from = late single.zones single.event.now.start single.own.start.is_time in
    record {
      not_early = omega (arith, ints, single.first, single.early, from);
      forward = omega (arith, ints, end.ensures.forward, end.type_inv, single.first, single.early, from);
      not_late = omega (arith, ints, end.ensures.early, end.ensures.forward, end.type_inv, single.first, single.early, from);
    }
