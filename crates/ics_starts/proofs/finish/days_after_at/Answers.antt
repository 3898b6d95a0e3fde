use Rattle.std.proofs.Common.{w64, arith, to_z-of_z, SFits}
use Rattle.std.proofs.lemmas.Int.{ints}
use Rattle.ics_zone.specs.Seconds.{IsNear}
use Rattle.ics_starts.proofs.InstantLemmas.{moved, near-moved}
use Rattle.ics_listing.proofs.Cases.{moment-back}
use Rattle.ics_starts.proofs.finish.days_after_at.Goals as goal

pub overflow_add-local : goal.overflow_add-local
overflow_add-local g c =
    let fits : SFits w64 c.args.start = c.ranges.start in
    let shown = simp to_z-of_z at c.local-local.ensures in
    let near : IsNear (g.P.Place.offset_at c.args.place.now c.args.start) = g.met.P.Place.near c.args.place.now c.args.start in
    omega (arith, ints, shown, near)

pub moment-requires : goal.moment-requires
moment-requires g c =
    let fits : SFits w64 c.args.start = c.ranges.start in
    let shown = simp to_z-of_z at c.local-local.ensures in
    let near : IsNear (g.P.Place.offset_at c.args.place.now c.args.start) = g.met.P.Place.near c.args.place.now c.args.start in
    (omega (arith, ints, shown, near), omega (arith, ints, shown, near))

pub returns : goal.returns
returns g c =
    let fits : SFits w64 c.args.start = c.ranges.start in
    let shown = simp to_z-of_z at c.local-local.ensures in
    let near : IsNear (g.P.Place.offset_at c.args.place.now c.args.start) = g.met.P.Place.near c.args.place.now c.args.start in
    let same = moment-back c.moment.result c.moment.type_inv in
    let far = near-moved (g.P.Place.moment_at c.args.place.now) (g.met.P.Place.moment_near c.args.place.now) _ _ c.moment.ensures in
    record {
      value = moved (g.P.Place.moment_at c.args.place.now) same c.moment.ensures (omega (arith, ints, shown, near));
      late = omega (arith, ints, shown, near, far);
      early = omega (arith, ints, shown, near, far);
    }
