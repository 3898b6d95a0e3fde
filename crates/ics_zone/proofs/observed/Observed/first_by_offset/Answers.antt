use Rattle.std.proofs.Common.{rules, arith, pos, ◌-ℤ◌, get_or, w32, w64, to_z, of_z}
use Rattle.std.proofs.lemmas.Int.{ints, to_z-of_z}
use Rattle.ics_zone.specs.ZoneOffsets.{zone_offset}
use Rattle.ics_zone.proofs.CandidateLemmas.{first_stays, first_early, first_moves, first_found}
use Rattle.ics_zone.proofs.observed.Observed.first_by_offset.Goals as goal

pub loop-offset-preserved-then-is_by : goal.loop-offset-preserved-then-is_by
loop-offset-preserved-then-is_by c = record {
  first = first_early (zone_offset c.args.self.now.said.items) _ _ _ (pos 0) c.loop-offset-test.true c.loop-offset.first c.loop-offset.invariant.first
      (to_z w64 (of_z w64 (to_z w64 (of_z w64 c.args.seconds) -ℤ to_z w64 (of_z w64 c.from.result)))) (omega (arith, ints)) c.is_by.ensures c.if-is_by.true;
  hint = c.loop-offset.invariant.hint;
}

pub loop-offset-preserved-in_default : goal.loop-offset-preserved-in_default
loop-offset-preserved-in_default c = record {
  first = first_stays (zone_offset c.args.self.now.said.items) _ _ _ (pos 0) c.loop-offset-test.true c.loop-offset.first c.loop-offset.invariant.first
      (simp (to_z-of_z w32 (get_or c.as_slice-offsets.result.now c.loop-offset.offset-index (pos 0)) (search rules)) at c.in_default.ensures.shown);
  hint = c.in_default.ensures.hint;
}

pub loop-offset-preserved : goal.loop-offset-preserved
loop-offset-preserved c =
    let is = simp (to_z-of_z w32 (get_or c.as_slice-offsets.result.now c.loop-offset.offset-index (pos 0)) (search rules)) at c.in-Some.ensures.shown in
    rw (to_z-of_z w64 c.earlier.result (search rules)) (record {
      first = first_moves (zone_offset c.args.self.now.said.items) _ _ _ (pos 0) c.loop-offset-test.true c.loop-offset.first c.earlier.result
          c.loop-offset.invariant.first is.0 is.1 (simp (to_z-of_z w64 c.in-Some.moment (search rules)) at c.earlier.ensures);
      hint = c.in-Some.ensures.hint;
    })

pub returns : goal.returns
returns c =
    let known = rw c.self.view_is at c.self.invariant in
    let found = simp (to_z-of_z, c.as_slice-offsets.ensures.value, c.ranges.seconds) at c.loop-offset.invariant.first in
    let past = rw c.as_slice-offsets.ensures.value at c.loop-offset-test.false in
    first_found (zone_offset c.args.self.now.said.items) c.args.seconds c.self.inside.offsets.items known.all_offsets
    c.loop-offset.offset-index past c.loop-offset.first found
