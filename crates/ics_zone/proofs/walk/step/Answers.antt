use Rattle.std.proofs.Common.{rules, arith, ◌≡◌, ◌⊎◌, inl, inr, SFits, ◌-ℤ◌, ◌<ℤ◌, ◌≤ℤ◌, w32, w64, to_z, of_z}
use Rattle.std.proofs.lemmas.Int.{ints, to_z-of_z}
use Rattle.ics_zone.proofs.WalkLemmas.{walk_shows, walk_on}
use Rattle.ics_zone.proofs.walk.step.Goals as goal
use Rattle.ics_zone.proofs.walk.step.Goals.{else-walk-moment-via-then-walk-moment+else-moment-span, else-walk-moment-via-else-walk-moment}

pub returns-then-moment-span : goal.returns-then-moment-span
returns-then-moment-span c = λ offset short steady walked.
    let is : to_z w64 (of_z w64 (to_z w64 (of_z w64 c.args.seconds) -ℤ to_z w64 (of_z w64 c.from.result))) ≡ c.args.seconds -ℤ c.args.span.now.offset =
    omega (arith, ints) in
    walk_shows short walked steady (omega (arith, ints)) (omega (arith, ints)) is (omega (arith, ints)) (omega (arith, ints))

pub returns : goal.returns
returns c = λ offset short steady walked.
    let next : SFits w64 c.args.span.now.next = search rules in
    let value : SFits w32 c.args.span.now.offset = search rules in
    let moment = to_z w64 (of_z w64 (c.args.seconds -ℤ to_z w64 (of_z w64 c.from.result))) in
    let is : moment ≡ c.args.seconds -ℤ c.args.span.now.offset = omega (arith, ints) in
    let out : (moment <ℤ c.args.walk.now.low) ⊎ (c.args.span.now.next ≤ℤ moment) = elim c.else-walk-moment.branch [
      | else-walk-moment-via-then-walk-moment+else-moment-span w ↦ inr (omega (arith, ints))
      | else-walk-moment-via-else-walk-moment w ↦ inl (omega (arith, ints))
    ] in
    rw (to_z-of_z w64 c.args.span.now.next next, to_z-of_z w32 c.args.span.now.offset value)
    (walk_on short walked steady (omega (arith, ints)) (omega (arith, ints)) is out (rw (to_z-of_z w64 c.args.seconds c.ranges.seconds) at c.gap_of.ensures))
