use Rattle.std.proofs.Common.{rules, arith, w32, w64}
use Rattle.std.proofs.lemmas.Int.{ints, to_z-of_z}
use Rattle.ics_zone.proofs.JumpLemmas.{is_offset}
use Rattle.ics_zone.proofs.observed.Observed.offset.Goals as goal

pub returns-in-Some-clause-means : goal.returns-in-Some-clause-means
returns-in-Some-clause-means c =
    let is = simp (to_z-of_z, c.ranges.moment) at c.in-Some.ensures.told in
    rw (to_z-of_z w32 c.in-Some.offset (search rules), is) (is_offset c.args.self.now c.told_offset.ensures.some c.args.moment)

pub returns-in-Some-held_over-clause-means : goal.returns-in-Some-held_over-clause-means
returns-in-Some-held_over-clause-means c =
    rw (to_z-of_z w32 c.in-Some-held_over.held.offset (search rules), c.in-Some-held_over.ensures.steady c.args.moment (search rules) (search rules))
    (is_offset c.args.self.now c.held_over.ensures.some c.args.moment)

pub returns-in-None-clause-means : goal.returns-in-None-clause-means
returns-in-None-clause-means c = rw (to_z-of_z w32 c.offset_of_latest.result (search rules))
    (rw (to_z-of_z w64 c.args.moment c.ranges.moment) at c.offset_of_latest.ensures.means)

pub offset_of_latest-requires : goal.offset_of_latest-requires
offset_of_latest-requires c = λ early. absurd (omega (arith, ints, early))
