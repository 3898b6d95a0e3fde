use Rattle.std.proofs.Common.{rules, ◌≡◌, w32, w64, to_z, of_z, ℤ, pos, List, get_or, arith}
use Rattle.std.proofs.lemmas.Int.{int_max_is, int_min_is, ints, to_z-of_z}
use Rattle.ics_zone.specs.ZoneOffsets.{zone_offset}
use Rattle.ics_zone.specs.Inner.ZoneBounds.{zone_short}
use Rattle.ics_zone.proofs.BoundsLemmas.{between_all, between_more, zone_bounds}
use Rattle.ics_zone.proofs.observed.Observed.bounds.Goals as goal

pub loop-offset-preserved : goal.loop-offset-preserved
loop-offset-preserved c =
    let l = c.loop-offset in
    let items : List ℤ = c.deref-offset-items.result.now in
    let x : ℤ = get_or items l.offset-index (pos 0) in
    let one : c.from.result ≡ x = simp (to_z-of_z w32 x (search rules)) at c.from.ensures in
    let two : c.from-in-loop-offset.result ≡ x = simp (to_z-of_z w32 x (search rules)) at c.from-in-loop-offset.ensures in
    let low : to_z w64 (of_z w64 c.min-least.result) ≡ c.min-least.result = to_z-of_z w64 c.min-least.result (search rules) in
    let high : to_z w64 (of_z w64 c.max-most.result) ≡ c.max-most.result = to_z-of_z w64 c.max-most.result (search rules) in
    let min = c.min-least.ensures in
    let max = c.max-most.ensures in
    rw (low, high) (record {
      between = between_more items l.offset-index l.invariant.between (omega (arith, ints, min.value, int_min_is)) (omega (arith, ints, max.value, int_max_is))
          (omega (arith, ints, min.value, int_min_is, one), omega (arith, ints, max.value, int_max_is, two));
      least = omega (arith, ints, min.value, int_min_is, l.invariant.least);
      most = omega (arith, ints, max.value, int_max_is, l.invariant.most);
    })

pub returns : goal.returns
returns c =
    let l = c.loop-offset in
    let zone = c.args.self.now in
    let known = rw c.self.view_is at c.self.invariant in
    let items : List ℤ = c.deref-offset-items.result.now in
    let low : to_z w64 (of_z w64 c.max.result) ≡ c.max.result = to_z-of_z w64 c.max.result (search rules) in
    let high : to_z w64 (of_z w64 c.min.result) ≡ c.min.result = to_z-of_z w64 c.min.result (search rules) in
    let in_all = between_all items l.offset-index c.loop-offset-test.false l.invariant.between in
    rw (low, high) (zone_bounds c.max.result c.min.result zone
    (λ t. let short = zone_short zone t in
    let b = in_all (zone_offset zone.said.items t) (rw (← c.deref-offset-items.ensures.value) at (known.all_offsets t)) in
    (omega (arith, ints, c.max.ensures.value, int_max_is, b, short), omega (arith, ints, c.min.ensures.value, int_min_is, b, short)))
    (omega (arith, ints, c.max.ensures.value, int_max_is), omega (arith, ints, c.max.ensures.value, int_max_is, l.invariant.least))
    (omega (arith, ints, c.min.ensures.value, int_min_is, l.invariant.most), omega (arith, ints, c.min.ensures.value, int_min_is)))
