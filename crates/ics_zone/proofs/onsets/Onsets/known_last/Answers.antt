use Rattle.std.proofs.Common.{rules, SFits, w64}
use Rattle.std.proofs.lemmas.Int.{to_z-of_z}
use Rattle.ics_zone.specs.Inner.OnsetSets.{Has}
use Rattle.ics_zone.proofs.FoundLemmas.{known_last}
use Rattle.ics_zone.proofs.OnsetGapLemmas.{last_of_gap}
use Rattle.ics_zone.proofs.onsets.Onsets.known_last.Goals as goal

pub returns-then-is_known : goal.returns-then-is_known
returns-then-is_known c =
    let is = simp (to_z-of_z, c.ranges.moment) at c.last_found.ensures in
    let known = simp (to_z-of_z, c.ranges.moment) at (c.is_known.ensures c.if-is_known.true) in
    known_last c.args.self.now c.requires c.args.moment known.1 known.0 c.last_found.result is

pub returns-in-Some : goal.returns-in-Some
returns-in-Some c =
    let fits : SFits w64 c.in-Some.gap.last = search rules in
    let gap = c.in-Some.ensures in
    rw (to_z-of_z w64 c.in-Some.gap.last fits) (last_of_gap (Has c.args.self.now) c.in-Some.gap gap.gap c.args.moment
    (simp (to_z-of_z, c.ranges.moment) at gap.last) (simp (to_z-of_z, c.ranges.moment) at gap.next))
