-- What jiff's compatible strategy picks, in whole seconds.
use Rattle.std.proofs.Common.{◌≡◌, ◌-ℤ◌, ℤ, rules, arith, w32, w64, FitsSigned}
use Rattle.std.proofs.lemmas.Int.{to_z-of_z, ints}
use Rattle.std.proofs.lemmas.Result.{IfOk-at_ok}
use Rattle.jiff.proofs.SpanFacts.{signed_arith}
use Rattle.jiff.specs.Words.{ambiguous_at, compatible_offset, picked_instant, plain_zone}
use Rattle.ics_fields.specs.Locals.{seconds_at}
use Rattle.ics_zone.specs.JiffZones.{plain_said, IsCompatible}
use Rattle.ics_zone.specs.ZoneSaid.{jiff_said, said_moment}
use Rattle.ics_zone.proofs.JiffLemmas.{fixed_moment, picked_seconds, means_moment, is_moment}
use Rattle.ics_zone.proofs.jiff_zone.JiffZone.moment.Goals as goal

pub unwrap-instant-requires : goal.unwrap-instant-requires
unwrap-instant-requires c =
    let offset = compatible_offset (ambiguous_at (plain_zone c.zone-zone.result) c.datetime.result) in
    let bound = offset.in_range in
    let second = c.args.local.second_in in
    let nanos = c.datetime.ensures in
    c.to_timestamp.ensures.succeeds.1
    (omega (arith, signed_arith, nanos, bound, second, c.requires), omega (arith, signed_arith, nanos, bound, second, c.requires))

pub returns-in-Fixed-clause-means : goal.returns-in-Fixed-clause-means
returns-in-Fixed-clause-means c =
    let offset = c.in-Fixed.offset in
    let local : ℤ = seconds_at c.args.local.day c.args.local.second in
    let same : c.seconds.result ≡ local = c.seconds.ensures in
    let own : FitsSigned w64 c.seconds.result = search rules in
    let short : FitsSigned w32 offset.seconds = omega (arith, ints, offset.in_range) in
    let wide : FitsSigned w64 offset.seconds = omega (arith, ints, offset.in_range) in
    let second = c.args.local.second_in in
    let fits : FitsSigned w64 (local -ℤ offset.seconds) = omega (arith, ints, c.requires, second, offset.in_range) in
    let is : local -ℤ offset.seconds ≡ said_moment (jiff_said c.args.self.now) local = rw c.in-Fixed.is (fixed_moment offset local) in
    rw (to_z-of_z w64 c.seconds.result own, same, to_z-of_z w32 offset.seconds short, to_z-of_z w64 offset.seconds wide)
    (rw (to_z-of_z w64 (local -ℤ offset.seconds) fits) (rw is c.picks.ensures))

pub returns-in-Fixed-clause-value : goal.returns-in-Fixed-clause-value
returns-in-Fixed-clause-value c =
    let offset = c.in-Fixed.offset in
    let local : ℤ = seconds_at c.args.local.day c.args.local.second in
    let same : c.seconds.result ≡ local = c.seconds.ensures in
    let own : FitsSigned w64 c.seconds.result = search rules in
    let short : FitsSigned w32 offset.seconds = omega (arith, ints, offset.in_range) in
    let wide : FitsSigned w64 offset.seconds = omega (arith, ints, offset.in_range) in
    let second = c.args.local.second_in in
    let fits : FitsSigned w64 (local -ℤ offset.seconds) = omega (arith, ints, c.requires, second, offset.in_range) in
    let is : local -ℤ offset.seconds ≡ said_moment (jiff_said c.args.self.now) local = rw c.in-Fixed.is (fixed_moment offset local) in
    rw (to_z-of_z w64 c.seconds.result own, same, to_z-of_z w32 offset.seconds short, to_z-of_z w64 offset.seconds wide)
    (rw (to_z-of_z w64 (local -ℤ offset.seconds) fits) is)

pub returns : goal.returns
returns c =
    let zone = plain_zone c.zone-zone.result in
    let dt = c.datetime.result in
    let local : ℤ = seconds_at c.args.local.day c.args.local.second in
    let nanos : c.unwrap-instant.result.nanosecond ≡ picked_instant zone dt = IfOk-at_ok _ c.unwrap-instant.ensures c.to_timestamp.ensures.value in
    let parts = picked_seconds zone dt local c.datetime.ensures in
    let second : c.as_second.result ≡ said_moment (plain_said zone) local = rw (c.as_second.ensures, nanos, parts) (omega (arith, signed_arith)) in
    let is : IsCompatible zone local c.as_second.result = record { shown = dt; same = c.datetime.ensures; picked = rw (second, parts) (search rules) } in
    let fits : FitsSigned w64 c.as_second.result = search rules in
    rw (to_z-of_z w64 c.as_second.result fits) (record {
      means = means_moment zone (jiff_said c.args.self.now) c.zone-zone.ensures local c.as_second.result is;
      value = is_moment zone (jiff_said c.args.self.now) c.zone-zone.ensures local c.as_second.result is;
    })
