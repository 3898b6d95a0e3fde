use Rattle.std.proofs.Common.{rules, arith, SFits, w64}
use Rattle.std.proofs.lemmas.Int.{ints, to_z-of_z}
use Rattle.ics_zone.proofs.onsets.Onsets.is_in_gap.Goals as goal

pub returns-in-Some : goal.returns-in-Some
returns-in-Some c = λ e t h late.
    let fits : SFits w64 c.in-Some.gap.next = search rules in
    let early = simp (to_z-of_z, c.ranges.moment, fits) at e in
    let not_after = simp (to_z-of_z, c.ranges.after) at c.in-Some.ensures.last in
    let low = c.in-Some.ensures.gap.next t h (omega (arith, ints, not_after, late)) in
    omega (arith, ints, early, low)
