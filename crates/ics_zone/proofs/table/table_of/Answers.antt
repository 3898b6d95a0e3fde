use Rattle.std.proofs.Common.{arith, w64}
use Rattle.std.proofs.lemmas.Int.{to_z-of_z}
use Rattle.ics_zone.proofs.TableLemmas.{numbered_more, table_of}
use Rattle.ics_zone.proofs.table.table_of.Goals as goal

pub loop-place-preserved : goal.loop-place-preserved
loop-place-preserved c =
    let before = rw (to_z-of_z w64 c.args.from c.ranges.from, to_z-of_z w64 c.args.last c.ranges.last) at c.loop-place.invariant in
    let known = simp (to_z-of_z, c.ranges.from, c.ranges.last) at (c.add_onsets.ensures.known c.if-not-add_onsets.false) in
    let complete = simp (to_z-of_z, c.ranges.from, c.ranges.last) at (c.add_onsets.ensures.complete c.if-not-add_onsets.false) in
    rw (to_z-of_z w64 c.args.from c.ranges.from, to_z-of_z w64 c.args.last c.ranges.last) (λ zone all.
    numbered_more all c.loop-place-test.true c.index-onsets-place.is known (c.add_onsets.ensures.stay c.if-not-add_onsets.false) complete (before zone all))

pub returns : goal.returns
returns c =
    let before = rw (to_z-of_z w64 c.args.from c.ranges.from, to_z-of_z w64 c.args.last c.ranges.last) at c.loop-place.invariant in
    λ zone all.
    let same = all.same_length in
    table_of (omega (arith, same, c.if-onsets.false)) (omega (arith, same, c.loop-place-test.false)) c.sort_unstable.ensures.permutation
    c.sort_unstable.ensures.sorted (before zone all)
