use Rattle.std.proofs.Common.{rules, arith, ◌≡◌, ◌⊎◌, inl, inr, SFits, subst, ◌-ℤ◌, ◌<ℤ◌, ◌≤ℤ◌, w32, w64, to_z, of_z}
use Rattle.std.proofs.lemmas.Int.{ints, to_z-of_z}
use Rattle.ics_zone.specs.Inner.Walks.{IsSeen}
use Rattle.ics_zone.proofs.WalkLemmas.{walk_shows, walk_on}
use Rattle.ics_zone.proofs.walk.seen_on.Goals as goal
use Rattle.ics_zone.proofs.walk.seen_on.Goals.{else-low-moment-via-then-low-moment+else-moment-span, else-low-moment-via-else-low-moment}

pub returns-then-moment-span : goal.returns-then-moment-span
returns-then-moment-span c = λ offset short steady seen.
    let walked = subst (λ s. IsSeen offset c.args.seconds c.args.span.now.from c.args.before s) c.in-Unshown.is seen in
    let is : to_z w64 (of_z w64 (to_z w64 (of_z w64 c.args.seconds) -ℤ to_z w64 (of_z w64 c.from.result))) ≡ c.args.seconds -ℤ c.args.span.now.offset =
    omega (arith, ints) in
    walk_shows short walked steady (omega (arith, ints)) c.requires.some is (omega (arith, ints)) (omega (arith, ints))

pub returns : goal.returns
returns c = λ offset short steady seen.
    let walked = subst (λ s. IsSeen offset c.args.seconds c.args.span.now.from c.args.before s) c.in-Unshown.is seen in
    let moment = to_z w64 (of_z w64 (c.args.seconds -ℤ to_z w64 (of_z w64 c.from.result))) in
    let is : moment ≡ c.args.seconds -ℤ c.args.span.now.offset = omega (arith, ints) in
    let out : (moment <ℤ c.args.span.now.from) ⊎ (c.args.span.now.next ≤ℤ moment) = elim c.else-low-moment.branch [
      | else-low-moment-via-then-low-moment+else-moment-span w ↦ inr (omega (arith, ints))
      | else-low-moment-via-else-low-moment w ↦ inl (omega (arith, ints))
    ] in
    let from : SFits w64 c.args.span.now.from = search rules in
    let before : SFits w32 c.args.before = search rules in
    walk_on short walked steady (omega (arith, ints)) c.requires.some is out (simp (to_z-of_z, c.ranges.seconds, from, before) at c.gap_of.ensures)
