use Rattle.std.proofs.Common.{◌≡◌, ◌∙◌, ◌+◌, ◌*◌, ◌-◌, ◌<◌, arith, drop, slice_index_or}
use Rattle.ics_series.specs.Inner.Beginnings.{number_by}
use Rattle.ics_series.proofs.BeginningLemmas.{fits-below, more-below, number-step}
use Rattle.ics_series.proofs.versions.beginning.Goals as goal

pub overflow_mul-number : goal.overflow_mul-number
overflow_mul-number c =
    omega (arith, fits-below c.loop-place.number 0 c.loop-place.place c.loop-place.invariant.below (omega arith) c.loop-place-test.true)

pub overflow_add-number : goal.overflow_add-number
overflow_add-number c =
    let byte : c.from.result < 256 = omega (arith, c.byte_at.type_inv, c.from.ensures) in
    omega (arith, fits-below c.loop-place.number c.from.result c.loop-place.place c.loop-place.invariant.below byte c.loop-place-test.true)

pub loop-place-preserved : goal.loop-place-preserved
loop-place-preserved c =
    let place = c.loop-place.place in
    let uid = c.args.uid.now in
    let byte : c.from.result < 256 = omega (arith, c.byte_at.type_inv, c.from.ensures) in
    let same : c.from.result ≡ slice_index_or uid place 0 = c.from.ensures ∙ c.byte_at.ensures in
    record {
      rest =
          (λ i. number_by (8 - (place + 1)) (c.loop-place.number * 256 + same i) (drop (place + 1) uid))
          ∙ (number-step c.loop-place.number place uid c.loop-place-test.true ∙ c.loop-place.invariant.rest);
      below = more-below c.loop-place.number c.from.result place c.loop-place.invariant.below byte;
    }
