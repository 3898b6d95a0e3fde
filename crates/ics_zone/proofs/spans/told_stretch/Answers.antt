use Rattle.std.proofs.Common.{rules, arith, ◌∙◌, ℤ, pos, SFits, get_or, w32}
use Rattle.std.proofs.lemmas.Int.{ints, to_z-of_z}
use Rattle.ics_zone.proofs.GapLemmas.{unshown_of}
use Rattle.ics_zone.proofs.StretchLemmas.{greatest_stays, greatest_on, stretch_found}
use Rattle.ics_zone.proofs.spans.told_stretch.Goals as goal

pub loop-offset-preserved-then-from-stretch : goal.loop-offset-preserved-then-from-stretch
loop-offset-preserved-then-from-stretch c = record {
  from = c.loop-offset.invariant.from;
  greatest = λ clock spans. greatest_stays clock _ _ (pos 0) c.loop-offset-test.true (c.loop-offset.invariant.greatest clock spans) (omega (arith, ints));
}

pub loop-offset-preserved : goal.loop-offset-preserved
loop-offset-preserved c =
    let o : ℤ = get_or c.args.offsets.now c.loop-offset.offset-index (pos 0) in
    let fits : SFits w32 o = search rules in
    record {
      from = c.narrowed-stretch.ensures.from ∙ c.loop-offset.invariant.from;
      greatest = λ clock spans.
          let cut = simp (to_z-of_z w32 o fits) at (c.narrowed-stretch.ensures.shown clock (c.in_ok-span.ensures.steady clock spans)) in
          greatest_on clock _ _ (pos 0) c.loop-offset-test.true (c.loop-offset.invariant.greatest clock spans)
          c.narrowed-stretch.result c.narrowed-stretch.ensures.from c.narrowed-stretch.ensures.to (omega (arith, ints)) cut;
    }

pub returns-then-stretch-le-NO_OFFSET : goal.returns-then-stretch-le-NO_OFFSET
returns-then-stretch-le-NO_OFFSET c = λ offset short spans offsets. c.told_gap.ensures offset short spans offsets
    (unshown_of short c.args.offsets.now offsets c.loop-offset.offset-index c.loop-offset-test.false (c.loop-offset.invariant.greatest offset spans)
    (omega (arith, ints)))

pub returns : goal.returns
returns c = λ offset short spans offsets.
    stretch_found offset short c.args.offsets.now offsets c.loop-offset.offset-index c.loop-offset-test.false
    (c.loop-offset.invariant.greatest offset spans) (omega (arith, ints)) (omega (arith, ints)) c.as_shown.result c.as_shown.ensures.from
    c.as_shown.ensures.to c.as_shown.ensures.offset c.as_shown.ensures.shown
