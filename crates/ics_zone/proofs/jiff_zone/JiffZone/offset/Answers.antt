use Rattle.std.proofs.Common.{rules, arith, ◌≡◌, w32, FitsSigned}
use Rattle.std.proofs.lemmas.Int.{to_z-of_z, ints}
use Rattle.jiff.specs.Words.{plain_zone}
use Rattle.ics_zone.specs.JiffZones.{offset_of}
use Rattle.ics_zone.specs.ZoneSaid.{jiff_said}
use Rattle.ics_zone.proofs.JiffLemmas.{fixed_means, fixed_offset, means_offset, is_offset}
use Rattle.ics_zone.proofs.jiff_zone.JiffZone.offset.Goals as goal

pub returns-in-Fixed-clause-means : goal.returns-in-Fixed-clause-means
returns-in-Fixed-clause-means c =
    let offset = c.in-Fixed.offset in
    let fits : FitsSigned w32 offset.seconds = omega (arith, ints, offset.in_range) in
    rw (c.in-Fixed.is, to_z-of_z w32 offset.seconds fits) (fixed_means offset c.args.moment)

pub returns-in-Fixed-clause-value : goal.returns-in-Fixed-clause-value
returns-in-Fixed-clause-value c =
    let offset = c.in-Fixed.offset in
    let fits : FitsSigned w32 offset.seconds = omega (arith, ints, offset.in_range) in
    rw (c.in-Fixed.is, to_z-of_z w32 offset.seconds fits) (fixed_offset offset c.args.moment)

pub returns : goal.returns
returns c =
    let zone = plain_zone c.zone-zone.result in
    let is : c.seconds.result ≡ offset_of zone c.args.moment = search rules in
    let fits : FitsSigned w32 c.seconds.result = search rules in
    rw (to_z-of_z w32 c.seconds.result fits) (record {
      means = means_offset zone (jiff_said c.args.self.now) c.zone-zone.ensures c.args.moment c.seconds.result is;
      value = is_offset zone (jiff_said c.args.self.now) c.zone-zone.ensures c.args.moment c.seconds.result is;
    })
