use Rattle.std.proofs.Common.{rules, arith, inl, inr, ◌≡◌, ◌+◌, ◌-◌, length, SFits, w32, w64, to_z, of_z, pos, ◌+ℤ◌}
use Rattle.std.proofs.lemmas.Int.{ints, to_z-of_z}
use Rattle.std.proofs.lemmas.Option.{slice_get_within}
use Rattle.ics_zone.proofs.MarkLemmas.{begun_none, stay_more}
use Rattle.ics_zone.proofs.latest.stay_after.Goals as goal

pub loop-place-init : goal.loop-place-init
loop-place-init c = record {
  length = search rules;
  some = omega (arith, ints);
  most = omega (arith, ints);
  stays = λ zone all. (
    begun_none zone (length c.args.onsets.now) 60 (to_z w32 (of_z w32 c.args.offset)) (to_z w64 (of_z w64 c.args.after) +ℤ pos 1),
    λ i s p from h late early. absurd (omega (arith, slice_get_within zone i p h.0)),
  );
}

pub loop-place-preserved : goal.loop-place-preserved
loop-place-preserved c =
    let from : SFits w64 (c.args.after +ℤ pos 1) = omega (arith, ints) in
    let own : SFits w32 c.index-onsets-place.result.offset_to = search rules in
    let last : SFits w64 c.last_own-last.result = search rules in
    let found = simp (to_z-of_z, own, c.ranges.after, c.ranges.offset) at c.last_own-last.ensures.side in
    let marks = simp (to_z-of_z, from, last, c.ranges.after) at c.clear-stay.ensures.marks in
    let clear = simp (to_z-of_z, from, last, c.ranges.after) at c.clear-stay.ensures.clear in
    let before = simp (to_z-of_z, c.ranges.after, c.ranges.offset) at c.loop-place.invariant.stays in
    let k = c.loop-place.place - 1 in
    let again : c.loop-place.place ≡ k + 1 = omega arith in
    rw (to_z-of_z w64 c.clear-stay.result (search rules), to_z-of_z w64 c.args.after c.ranges.after, to_z-of_z w32 c.args.offset c.ranges.offset)
    (record {
      length = c.clear-stay.ensures.length;
      some = omega (arith, ints);
      most = omega (arith, ints);
      stays = λ zone all.
          let was = rw again at (before zone all) in
          stay_more all (omega arith) c.index-onsets-place.is _ _ _
          (elim found [ inl same ↦ inl same | inr far ↦ inr (λ m. omega (arith, ints, far, own)) ])
          was.0 marks (omega (arith, ints)) clear was.1;
    })

pub returns-clause-stay : goal.returns-clause-stay
returns-clause-stay c = λ zone all i s p h late early.
    let stays = simp (to_z-of_z, c.ranges.after, c.ranges.offset) at c.loop-place.invariant.stays in
    (stays zone all).1 i s p (omega arith) h late (omega (arith, ints))
