use Rattle.std.proofs.Common.{arith}
use Rattle.std.proofs.lemmas.Int.{int_max_is, int_min_is, ints}
use Rattle.ics_starts.proofs.listed.counts_from.Goals as goal

pub returns : goal.returns
returns c =
    let w = c.args.window.now in
    omega (arith, ints, int_max_is, int_min_is, c.max.ensures.value, c.min.ensures.value, c.requires, c.ranges, w.not_early, w.ordered, w.not_late)
