use Rattle.std.proofs.Common.{rules, arith, inl, w64, to_z, of_z, pos, ◌+ℤ◌, ◌∙◌}
use Rattle.std.proofs.lemmas.Bool.{or_right}
use Rattle.std.proofs.lemmas.Int.{ints, to_z-of_z}
use Rattle.ics_zone.proofs.JumpLemmas.{natural_less}
use Rattle.ics_zone.proofs.MarkLemmas.{known_more, complete_more}
use Rattle.ics_zone.proofs.onsets.Onsets.mark_each.Goals as goal

pub loop-at-init : goal.loop-at-init
loop-at-init c =
    rw (to_z-of_z w64 c.next_asked-at.result (search rules), to_z-of_z w64 c.args.from c.ranges.from) (record {
      length = c.requires.length;
      low = omega (arith, ints);
      high = omega (arith, ints);
      is = λ l. c.next_asked-at.ensures.is (omega (arith, ints));
      known = λ k h. inl h;
      stay = λ k h. h;
      complete = λ k early asked. absurd (let low = c.next_asked-at.ensures.next (c.args.from +ℤ pos k) asked (omega (arith, ints)) in omega (arith, ints));
    })

pub loop-at-smaller : goal.loop-at-smaller
loop-at-smaller c = natural_less (to_z w64 (of_z w64 c.args.from) +ℤ pos 3_600) (to_z w64 c.loop-at.at-bits)
    (to_z w64 (of_z w64 c.next_asked-at-in-loop-at.result)) (omega (arith, ints)) (omega (arith, ints))

pub loop-at-preserved : goal.loop-at-preserved
loop-at-preserved c =
    let known = rw (to_z-of_z w64 c.args.from c.ranges.from) at c.loop-at.invariant.known in
    let complete = rw (to_z-of_z w64 c.args.from c.ranges.from) at c.loop-at.invariant.complete in
    let marks = c.mark.ensures.marks in
    rw (to_z-of_z w64 c.next_asked-at-in-loop-at.result (search rules), to_z-of_z w64 c.args.from c.ranges.from) (record {
      length = c.mark.ensures.length;
      low = omega (arith, ints);
      high = omega (arith, ints);
      is = λ l. c.next_asked-at-in-loop-at.ensures.is (omega (arith, ints));
      known = known_more c.args.self.now c.args.with_rule c.args.from c.loop-at.marks c.mark.new.marks (to_z w64 c.loop-at.at-bits) _
          (omega (arith, ints)) marks c.args.marks.now (c.loop-at.invariant.is (omega (arith, ints))) known;
      stay = λ k h. marks k ∙ or_right _ _ (c.loop-at.invariant.stay k h);
      complete = complete_more c.args.self.now c.args.with_rule c.args.from c.loop-at.marks c.mark.new.marks (to_z w64 c.loop-at.at-bits) _
          (omega (arith, ints)) marks c.next_asked-at-in-loop-at.result c.next_asked-at-in-loop-at.ensures.next complete;
    })

pub returns-clause-known : goal.returns-clause-known
returns-clause-known c = rw (to_z-of_z w64 c.args.from c.ranges.from) at c.loop-at.invariant.known

pub returns-clause-complete : goal.returns-clause-complete
returns-clause-complete c = λ k low asked.
    let complete = rw (to_z-of_z w64 c.args.from c.ranges.from) at c.loop-at.invariant.complete in complete k (omega (arith, ints)) asked
