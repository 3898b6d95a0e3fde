use Rattle.std.proofs.Common.{rules, SFits, subst, w32, w64}
use Rattle.std.proofs.lemmas.Int.{to_z-of_z}
use Rattle.ics_zone.specs.Inner.Walks.{IsSeen}
use Rattle.ics_zone.proofs.SweepLemmas.{in_gap}
use Rattle.ics_zone.proofs.sweep.settled.Goals as goal

pub returns-in-Unshown : goal.returns-in-Unshown
returns-in-Unshown c = λ offset short seen.
    let walked = subst (λ s. IsSeen offset c.args.seconds c.args.reach.now.low c.args.reach.now.before s) c.in-Unshown.is seen in
    let low : SFits w64 c.args.reach.now.low = search rules in
    let before : SFits w32 c.args.reach.now.before = search rules in
    in_gap offset c.args.seconds c.gap_at_end.result ((simp (to_z-of_z, c.ranges.seconds, low, before) at c.gap_at_end.ensures) offset short walked)
