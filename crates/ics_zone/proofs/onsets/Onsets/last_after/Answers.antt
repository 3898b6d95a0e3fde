use Rattle.std.proofs.Common.{rules, SFits, w64, arith, inl, inr, Contains}
use Rattle.std.proofs.lemmas.Int.{ints, clamps, to_z-of_z}
use Rattle.ics_zone.specs.Inner.OnsetSets.{IsKeptAt}
use Rattle.ics_zone.proofs.Cases.{less_or_not_z}
use Rattle.ics_zone.proofs.LatestLemmas.{last_of_both, first_after, second_after}
use Rattle.ics_zone.proofs.onsets.Onsets.last_after.Goals as goal

pub returns-then-is_quiet-clause-last : goal.returns-then-is_quiet-clause-last
returns-then-is_quiet-clause-last c = λ t h early.
    let quiet = simp (to_z-of_z, c.ranges.after, c.ranges.moment) at (c.is_quiet.ensures c.if-is_quiet.true) in
    elim (less_or_not_z c.args.after t) [ inl late ↦ absurd (let past = quiet t h late in omega (arith, ints)) | inr low ↦ low ]

pub returns-in-None-default-clause-last : goal.returns-in-None-default-clause-last
returns-in-None-default-clause-last c =
    let first = simp (to_z-of_z, c.ranges.after, c.ranges.moment) at (rw c.in-None-default.is-0 at c.last_listed_after.ensures) in
    let second = simp (to_z-of_z, c.ranges.after, c.ranges.moment) at c.last_by_rule_after.ensures in
    second_after (Contains c.args.self.now.listed.items) (IsKeptAt c.args.self.now) c.args.after c.args.moment c.last_by_rule_after.result first second

pub returns-in-Some-Some : goal.returns-in-Some-Some
returns-in-Some-Some c =
    let a : SFits w64 c.in-Some-Some.listed = search rules in
    let b : SFits w64 c.in-Some-Some.kept = search rules in
    let listed = simp (to_z-of_z, c.ranges.moment) at c.in-Some-Some.ensures in
    let kept = simp (to_z-of_z, c.ranges.moment) at c.in-Some-Some.ensures' in
    let max = simp (to_z-of_z, a, b) at c.max.ensures.value in
    rw (to_z-of_z w64 c.max.result (search rules)) (record { last = last_of_both c.args.self.now listed.0 kept.0 max; after = omega (arith, ints, clamps) })

pub returns-in-Some-None-clause-last : goal.returns-in-Some-None-clause-last
returns-in-Some-None-clause-last c =
    let listed = simp (to_z-of_z, c.ranges.moment) at c.in-Some-None.ensures in
    rw (to_z-of_z w64 c.in-Some-None.listed (search rules))
    (first_after c.args.self.now listed.0 listed.1 (simp (to_z-of_z, c.ranges.moment) at c.in-Some-None.ensures'))

-- the last one is known
pub returns-else-last-after-clause-last : goal.returns-else-last-after-clause-last
returns-else-last-after-clause-last c = λ t h early.
    let fits : SFits w64 c.in-Some.last = search rules in
    let not_late = simp (to_z-of_z, c.ranges.after, fits) at c.if-last-after.false in
    let is = simp (to_z-of_z, c.ranges.moment) at c.in-Some.ensures in
    let low = is.last t h early in
    omega (arith, ints, low, not_late)
