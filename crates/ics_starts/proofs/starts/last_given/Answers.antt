use Rattle.std.proofs.Common.{rules, w64, arith, SFits}
use Rattle.std.proofs.lemmas.Int.{ints, int_max_is, int_min_is}
use Rattle.ics_starts.proofs.starts.last_given.Goals as goal

pub returns-in-None : goal.returns-in-None
returns-in-None c =
    let w = c.args.window.now in
    record {
      value = rw c.in-None.is (omega (arith, ints, w.ordered, w.not_early, w.not_late));
      low = omega (arith, ints, w.ordered, w.not_early, w.not_late);
      early = omega (arith, ints, w.ordered, w.not_early, w.not_late);
    }

pub returns-in-Some : goal.returns-in-Some
returns-in-Some c =
    let w = c.args.window.now in
    let fits : SFits w64 c.in-Some.until = search rules in
    let first = c.requires in
    let min = c.min.ensures.value in
    let min-in = c.min.type_inv in
    let max = c.max.ensures.value in
    let max-in = c.max.type_inv in
    let seconds = c.seconds.ensures in
    let second = c.args.first.second_in in
    record {
      value = rw c.in-Some.is (omega (arith, ints, int_max_is, int_min_is, w.ordered, w.not_early, w.not_late, first.0, first.1));
      low = omega (arith, ints, int_max_is, int_min_is, w.ordered, w.not_early, w.not_late, first.0, first.1);
      early = omega (arith, ints, int_max_is, int_min_is, w.ordered, w.not_early, w.not_late);
    }
