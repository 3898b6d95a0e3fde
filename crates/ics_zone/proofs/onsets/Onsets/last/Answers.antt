use Rattle.std.proofs.Common.{rules, arith, SFits, w64, Contains}
use Rattle.std.proofs.lemmas.Int.{ints, to_z-of_z}
use Rattle.ics_zone.specs.Inner.OnsetSets.{IsKeptAt}
use Rattle.ics_zone.proofs.LatestLemmas.{last_of_both, last_of_first, last_of_second}
use Rattle.ics_zone.proofs.onsets.Onsets.last.Goals as goal

pub returns-in-Some-Some : goal.returns-in-Some-Some
returns-in-Some-Some c =
    let a : SFits w64 c.in-Some-Some.listed = search rules in
    let b : SFits w64 c.in-Some-Some.kept = search rules in
    rw (to_z-of_z w64 c.max.result (search rules))
    (last_of_both c.args.self.now (simp (to_z-of_z, c.ranges.moment) at c.in-Some-Some.ensures) (simp (to_z-of_z, c.ranges.moment) at c.in-Some-Some.ensures')
    (simp (to_z-of_z, a, b) at c.max.ensures.value))

pub returns-in-Some-None : goal.returns-in-Some-None
returns-in-Some-None c =
    rw (to_z-of_z w64 c.in-Some-None.listed (search rules))
    (last_of_first c.args.self.now (simp (to_z-of_z, c.ranges.moment) at c.in-Some-None.ensures) (simp (to_z-of_z, c.ranges.moment) at c.in-Some-None.ensures'))

pub returns-in-None-default : goal.returns-in-None-default
returns-in-None-default c =
    last_of_second (Contains c.args.self.now.listed.items) (IsKeptAt c.args.self.now) c.last_by_rule.result
    (rw c.in-None-default.is-0 at (simp (to_z-of_z, c.ranges.moment) at c.last_listed.ensures)) (simp (to_z-of_z, c.ranges.moment) at c.last_by_rule.ensures)

pub returns-then-moment-first : goal.returns-then-moment-first
returns-then-moment-first c = λ u h.
    let low = c.first.ensures.first u h in
    omega (arith, ints, to_z-of_z w64 c.first.result (search rules), to_z-of_z w64 c.args.moment c.ranges.moment)
