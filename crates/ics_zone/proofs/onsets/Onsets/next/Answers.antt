use Rattle.std.proofs.Common.{rules, SFits, w64, arith}
use Rattle.std.proofs.lemmas.Int.{ints, clamps, to_z-of_z}
use Rattle.ics_zone.proofs.KeptLemmas.{earlier_of}
use Rattle.ics_zone.proofs.onsets.Onsets.next.Goals as goal

pub returns-then-is_known : goal.returns-then-is_known
returns-then-is_known c =
    let known : SFits w64 c.known_next.result = search rules in
    let value = simp (to_z-of_z, c.ranges.limit, known) at c.min.ensures.value in
    let after = simp (to_z-of_z, c.ranges.after) at c.known_next.ensures.after in
    let next = simp (to_z-of_z, c.ranges.after) at c.known_next.ensures.next in
    rw (to_z-of_z w64 c.min.result (search rules)) (record {
      after = omega (arith, ints, clamps, value, after, c.requires.limit);
      bound = omega (arith, ints, clamps, value);
      next = λ t h late. let low = next t h late in omega (arith, ints, clamps, value, low);
    })

pub returns : goal.returns
returns c =
    let kept : SFits w64 c.next_by_rule-kept.result = search rules in
    let bound = simp (to_z-of_z, kept) at c.next_listed.ensures.bound in
    rw (to_z-of_z w64 c.next_listed.result (search rules)) (record {
      after = simp (to_z-of_z, c.ranges.after) at c.next_listed.ensures.after;
      bound = omega (arith, ints);
      next = earlier_of c.args.self.now c.args.after bound (simp (to_z-of_z, c.ranges.after) at c.next_listed.ensures.next)
          (simp (to_z-of_z, c.ranges.after) at c.next_by_rule-kept.ensures.next);
    })

-- a gap is known
pub returns-in-Some : goal.returns-in-Some
returns-in-Some c =
    let fits : SFits w64 c.in-Some.gap.next = search rules in
    let value = simp (to_z-of_z, c.ranges.limit, fits) at c.min-in-Some.ensures.value in
    let last = simp (to_z-of_z, c.ranges.after) at c.in-Some.ensures.last in
    let early = simp (to_z-of_z, c.ranges.after) at c.in-Some.ensures.next in
    rw (to_z-of_z w64 c.min-in-Some.result (search rules)) (record {
      after = omega (arith, ints, clamps, value, early, c.requires.limit);
      bound = omega (arith, ints, clamps, value);
      next = λ t h late. let low = c.in-Some.ensures.gap.next t h (omega (arith, ints, last, late)) in omega (arith, ints, clamps, value, low);
    })
