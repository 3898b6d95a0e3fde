use Rattle.std.proofs.Common.{rules, arith, ◌∙◌, ℤ, pos, SFits, get_or, w32}
use Rattle.std.proofs.lemmas.Int.{ints, to_z-of_z}
use Rattle.ics_zone.specs.Moments.{moment_by}
use Rattle.ics_zone.proofs.GapLemmas.{unshown_of}
use Rattle.ics_zone.proofs.StretchLemmas.{greatest_stays, greatest_on, stretch_found}
use Rattle.ics_zone.proofs.seconds.OffsetEachSecond.stretch.Goals as goal

pub loop-offset-preserved-then-from-stretch : goal.loop-offset-preserved-then-from-stretch
loop-offset-preserved-then-from-stretch c = record {
  from = c.loop-offset.invariant.from;
  order = c.loop-offset.invariant.order;
  to = c.loop-offset.invariant.to;
  greatest = λ clock told. greatest_stays clock _ _ (pos 0) c.loop-offset-test.true (c.loop-offset.invariant.greatest clock told) (omega (arith, ints));
}

pub narrowed-requires-clause-order : goal.narrowed-requires-clause-order
narrowed-requires-clause-order c = c.loop-offset.invariant.order

pub loop-offset-preserved : goal.loop-offset-preserved
loop-offset-preserved c =
    let o : ℤ = get_or c.args.offsets.now c.loop-offset.offset-index (pos 0) in
    let fits : SFits w32 o = search rules in
    record {
      from = c.in_ok-stretch.ensures.from ∙ c.loop-offset.invariant.from;
      order = c.in_ok-stretch.ensures.order;
      to = omega (arith, ints, c.in_ok-stretch.ensures.to, c.loop-offset.invariant.to);
      greatest = λ clock told.
          let cut = simp (to_z-of_z w32 o fits) at (c.in_ok-stretch.ensures.shown clock told) in
          greatest_on clock _ _ (pos 0) c.loop-offset-test.true (c.loop-offset.invariant.greatest clock told)
          c.in_ok-stretch.stretch c.in_ok-stretch.ensures.from c.in_ok-stretch.ensures.to (omega (arith, ints)) cut;
    }

pub returns-then-is_short : goal.returns-then-is_short
returns-then-is_short c = λ offset short told contains. c.none.ensures offset (moment_by offset)

pub returns-then-stretch-le-NO_OFFSET : goal.returns-then-stretch-le-NO_OFFSET
returns-then-stretch-le-NO_OFFSET c = λ offset short told contains. c.gap.ensures offset short told contains
    (unshown_of short c.args.offsets.now contains c.loop-offset.offset-index c.loop-offset-test.false (c.loop-offset.invariant.greatest offset told)
    (omega (arith, ints)))

pub returns : goal.returns
returns c = λ offset short told contains.
    stretch_found offset short c.args.offsets.now contains c.loop-offset.offset-index c.loop-offset-test.false
    (c.loop-offset.invariant.greatest offset told) (omega (arith, ints)) (c.is_short.ensures c.if-is_short.false) c.as_shown.result c.as_shown.ensures.from
    c.as_shown.ensures.to c.as_shown.ensures.offset c.as_shown.ensures.shown
