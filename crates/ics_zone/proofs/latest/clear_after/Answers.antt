use Rattle.std.proofs.Common.{rules, arith, ◌≡◌, ◌+◌, ◌-◌, length, SFits, w64, to_z, of_z, pos, ◌+ℤ◌}
use Rattle.std.proofs.lemmas.Int.{ints, to_z-of_z}
use Rattle.std.proofs.lemmas.Option.{slice_get_within}
use Rattle.ics_zone.proofs.MarkLemmas.{overrides_none, clears_more}
use Rattle.ics_zone.proofs.latest.clear_after.Goals as goal

pub loop-place-init : goal.loop-place-init
loop-place-init c = record {
  length = search rules;
  some = omega (arith, ints);
  most = omega (arith, ints);
  clears = λ zone all. (
    overrides_none zone (length c.args.onsets.now) 60 (to_z w64 (of_z w64 c.args.seconds)) (to_z w64 (of_z w64 c.args.after) +ℤ pos 1),
    λ i s p from h late early later. absurd (omega (arith, slice_get_within zone i p h.0)),
  );
}

pub loop-place-preserved : goal.loop-place-preserved
loop-place-preserved c =
    let from : SFits w64 (c.args.after +ℤ pos 1) = omega (arith, ints) in
    let marks = simp (to_z-of_z, from, c.ranges.after, c.ranges.seconds) at c.clear-clear.ensures.marks in
    let clear = simp (to_z-of_z, from, c.ranges.after, c.ranges.seconds) at c.clear-clear.ensures.clear in
    let before = simp (to_z-of_z, c.ranges.after, c.ranges.seconds) at c.loop-place.invariant.clears in
    let k = c.loop-place.place - 1 in
    let again : c.loop-place.place ≡ k + 1 = omega arith in
    rw (to_z-of_z w64 c.clear-clear.result (search rules), to_z-of_z w64 c.args.after c.ranges.after, to_z-of_z w64 c.args.seconds c.ranges.seconds)
    (record {
      length = c.clear-clear.ensures.length;
      some = omega (arith, ints);
      most = omega (arith, ints);
      clears = λ zone all.
          let was = rw again at (before zone all) in
          clears_more all (omega arith) c.index-onsets-place.is _ _ _ was.0 marks (omega (arith, ints)) clear was.1;
    })

pub returns-clause-clear : goal.returns-clause-clear
returns-clause-clear c = λ zone all i s p h late early later.
    let clears = simp (to_z-of_z, c.ranges.after, c.ranges.seconds) at c.loop-place.invariant.clears in
    (clears zone all).1 i s p (omega arith) h late (omega (arith, ints)) later
