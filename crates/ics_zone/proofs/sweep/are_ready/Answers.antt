use Rattle.std.proofs.Common.{rules, arith, refl, inl, inr, sym, subst, ℤ, pos, SFits, get_or, length, ◌<◌, ◌+ℤ◌, ◌≤ℤ◌, w64}
use Rattle.std.proofs.lemmas.Int.{ints, to_z-of_z}
use Rattle.std.proofs.lemmas.List.{get_or_default}
use Rattle.ics_zone.specs.Seconds.{IsMoment}
use Rattle.ics_zone.proofs.Cases.{below_or_at}
use Rattle.ics_zone.proofs.SweepLemmas.{all_on}
use Rattle.ics_zone.proofs.sweep.are_ready.Goals as goal

pub loop-k-preserved : goal.loop-k-preserved
loop-k-preserved c =
    let inside : c.loop-k.k < length c.args.locals.now = omega (arith, c.loop-k-test.true) in
    let next : ℤ = get_or c.args.locals.now c.loop-k.k (pos 0) in
    let fits : SFits w64 next = search rules in
    let was = simp (to_z-of_z, c.ranges.from) at c.loop-k.invariant.begun in
    let up : c.loop-k.last ≤ℤ next = omega (arith, ints, c.if-next-last.false) in
    let last = all_on c.args.locals.now c.loop-k.k (λ s. s ≤ℤ next) inside (λ j d h. let old = c.loop-k.invariant.last j d h in omega (arith, ints))
    (omega (arith, ints)) in
    rw (to_z-of_z w64 next fits, to_z-of_z w64 c.args.from c.ranges.from) (record {
      last = last;
      in_order = λ j k d order h. elim (below_or_at k c.loop-k.k (omega arith)) [
        | inl less ↦ c.loop-k.invariant.in_order j k d order less
        | inr at ↦ subst (λ i. get_or c.args.locals.now j d ≤ℤ get_or c.args.locals.now i d) (sym at)
            (subst (λ s. get_or c.args.locals.now j d ≤ℤ s) (get_or_default c.args.locals.now c.loop-k.k (pos 0) d inside) (last j d (omega arith)))
      ];
      begun = omega (arith, ints);
      late = all_on c.args.locals.now c.loop-k.k (λ s. (c.args.from +ℤ pos 86_400) ≤ℤ s) inside
          (simp (to_z-of_z, c.ranges.from) at c.loop-k.invariant.late) (omega (arith, ints));
      moments = all_on c.args.locals.now c.loop-k.k IsMoment inside c.loop-k.invariant.moments
          ((simp (to_z-of_z, fits) at c.if-not-is_moment.ensures) refl);
    })
