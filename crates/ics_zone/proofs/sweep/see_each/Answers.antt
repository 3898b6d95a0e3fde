use Rattle.std.proofs.Common.{rules, arith, inl, inr, SFits, pos, get_or, length, length-set, ◌∙◌, ◌<◌, w32, w64}
use Rattle.std.proofs.lemmas.Int.{to_z-of_z}
use Rattle.ics_zone.proofs.SweepLemmas.{less_or_not, others_on, told_here, told_on}
use Rattle.ics_zone.proofs.sweep.see_each.Goals as goal

pub loop-k-preserved : goal.loop-k-preserved
loop-k-preserved c =
    let inside : c.loop-k.k < length c.loop-k.seen = omega (arith, c.loop-k-test.true, c.requires.end, c.requires.length, c.loop-k.invariant.long) in
    let local : c.loop-k.k < length c.args.locals.now = omega (arith, c.loop-k-test.true, c.requires.end) in
    let seconds : SFits w64 (get_or c.args.locals.now c.loop-k.k (pos 0)) = search rules in
    rw (to_z-of_z w32 c.args.before c.ranges.before) (record {
      begun = omega (arith, c.loop-k.invariant.begun);
      bound = inl (omega (arith, c.loop-k-test.true));
      long = length-set c.loop-k.seen c.loop-k.k c.seen_on.result ∙ c.loop-k.invariant.long;
      others = others_on c.args.seen.now c.loop-k.seen c.seen_on.result c.loop-k.invariant.begun c.loop-k.invariant.others;
      told = told_on c.args.seen.now c.loop-k.seen c.seen_on.result c.loop-k.invariant.begun c.loop-k.invariant.others
          c.args.span.now c.args.before c.args.locals.now inside local
          (told_here c.args.span.now c.args.before c.args.locals.now c.loop-k.seen c.loop-k.k c.seen_on.result (pos 0) _ inside local
          (simp (to_z-of_z, c.ranges.before, seconds) at c.seen_on.ensures))
          (simp (to_z-of_z, c.ranges.before) at c.loop-k.invariant.told);
    })

pub returns-clause-others : goal.returns-clause-others
returns-clause-others c = λ k e out.
    let bound = c.loop-k.invariant.bound in
    c.loop-k.invariant.others k e (elim out [
      | inl a ↦ inl a
      | inr b ↦ elim bound [ inl low ↦ inr (omega arith) | inr none ↦ (elim (less_or_not k c.args.begin) [ inl a ↦ inl a | inr more ↦ inr (omega arith) ]) ]
    ])

pub returns-clause-told : goal.returns-clause-told
returns-clause-told c = λ k d e low high. (simp (to_z-of_z, c.ranges.before) at c.loop-k.invariant.told) k d e low (omega (arith, c.loop-k-test.false))
