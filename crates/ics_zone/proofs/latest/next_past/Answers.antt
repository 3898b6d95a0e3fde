use Rattle.std.proofs.Common.{rules, arith, SFits, w64, to_z, of_z, sym, subst, ◌≡◌, ◌-ℤ◌}
use Rattle.std.specs.Int.{int_max}
use Rattle.std.proofs.lemmas.Int.{ints, clamps, to_z-of_z}
use Rattle.std.proofs.lemmas.Option.{slice_get_within}
use Rattle.ics_zone.specs.Inner.OnsetSets.{IsSound}
use Rattle.ics_zone.proofs.ZoneSteps.{past_now, past_before}
use Rattle.ics_zone.proofs.latest.next_past.Goals as goal

pub loop-place-preserved-then-next-from : goal.loop-place-preserved-then-next-from
loop-place-preserved-then-next-from c =
    let from : c.max-from.result ≡ int_max (to_z w64 (of_z w64 c.args.after)) (to_z w64 (of_z w64 c.args.seconds) -ℤ c.index-onsets-place.result.offset_to) =
    omega (arith, ints, clamps) in
    record {
      later = c.loop-place.invariant.later;
      in_bound = c.loop-place.invariant.in_bound;
      none = λ zone all. past_before all c.loop-place-test.true c.index-onsets-place.is from (c.loop-place.invariant.none zone all)
          c.loop-place.invariant.later (omega (arith, ints, to_z-of_z w64 c.max-from.result (search rules)));
    }

pub next-next-requires-clause-sound : goal.next-next-requires-clause-sound
next-next-requires-clause-sound c = subst IsSound (sym c.index-onsets-place.is)
    (c.requires.sound c.loop-place.place c.index-onsets-place.result c.loop-place-test.true)

pub loop-place-preserved : goal.loop-place-preserved
loop-place-preserved c =
    let small : SFits w64 c.max-from.result = search rules in
    let from : c.max-from.result ≡ int_max (to_z w64 (of_z w64 c.args.after)) (to_z w64 (of_z w64 c.args.seconds) -ℤ c.index-onsets-place.result.offset_to) =
    omega (arith, ints, clamps) in
    let bound = c.next-next.ensures.bound in
    rw (to_z-of_z w64 c.next-next.result (search rules)) (record {
      later = omega (arith, ints, clamps);
      in_bound = omega (arith, ints);
      none = λ zone all. past_now all c.loop-place-test.true c.index-onsets-place.is from (c.loop-place.invariant.none zone all) bound
          (rw (to_z-of_z w64 c.max-from.result small) at c.next-next.ensures.next);
    })

pub returns : goal.returns
returns c =
    let none = rw (to_z-of_z w64 c.args.seconds c.ranges.seconds, to_z-of_z w64 c.args.after c.ranges.after) at c.loop-place.invariant.none in
    record {
      after = omega (arith, ints);
      bound = omega (arith, ints);
      next = λ zone all i s p h late early. none zone all i s p (omega (arith, slice_get_within zone i p h.0)) h late early;
    }
