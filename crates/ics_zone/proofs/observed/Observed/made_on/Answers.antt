use Rattle.std.proofs.Common.{rules, length, ◌<◌}
use Rattle.ics_zone.proofs.WalkLemmas.{steady_pushed}
use Rattle.ics_zone.proofs.observed.Observed.made_on.Goals as goal

pub loop-k-preserved : goal.loop-k-preserved
loop-k-preserved c =
    let inside : c.loop-k.k < length c.made-made.result = search rules in
    steady_pushed c.loop-k.spans.items _ _ c.push.ensures.items c.loop-k.invariant (c.made-made.ensures c.loop-k.k _ inside)
