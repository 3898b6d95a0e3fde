use Rattle.std.proofs.Common.{rules, arith, SFits, w32, w64}
use Rattle.std.proofs.lemmas.Int.{ints, to_z-of_z}
use Rattle.ics_zone.proofs.KeptLemmas.{last_of_rule}
use Rattle.ics_zone.specs.Inner.OnsetSets.{IsKeptAt}
use Rattle.ics_zone.specs.Inner.Latest.{IsLast}
use Rattle.ics_zone.proofs.onsets.Onsets.last_by_rule_after.Goals as goal
use Rattle.ics_zone.proofs.onsets.Onsets.last_by_rule_after.Goals.{After-instant-last}

-- the instant of the last kept local is the last onset
last : (c : After-instant-last) → IsLast (IsKeptAt c.args.self.now) c.args.moment c.instant-last.result
last c =
    let from : SFits w32 c.args.self.now.offset_from = search rules in
    last_of_rule c.args.self.now c.in-Some.is (simp (to_z-of_z, c.ranges.moment) at c.shown_to-end.ensures) c.in_ok-kept.ensures
    (simp (to_z-of_z, from) at c.instant-last.ensures)

pub returns-then-last-after : goal.returns-then-last-after
returns-then-last-after c = rw (to_z-of_z w64 c.instant-last.result (search rules))
    (last (goal.at.returns-then-last-after c).After-instant-last, grind (arith, ints))

pub returns-else-last-after : goal.returns-else-last-after
returns-else-last-after c = λ u h l.
    let low = (last (goal.at.returns-else-last-after c).After-instant-last).last u h l in
    let fits : SFits w64 c.instant-last.result = search rules in
    let not_late = simp (to_z-of_z, c.ranges.after, fits) at c.if-last-after.false in
    omega (arith, ints, low, not_late)
