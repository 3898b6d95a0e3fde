use Rattle.std.proofs.Common.{rules, arith, sym, ◌≡◌, ◌≤ℤ◌, ◌<ℤ◌, ◌-ℤ◌, ℤ, w64, SFits}
use Rattle.std.proofs.lemmas.Int.{to_z-of_z, ints}
use Rattle.ics_fields.specs.Locals.{seconds_at}
use Rattle.ics_zone.specs.ZoneSaid.{jiff_said, said_moment}
use Rattle.ics_zone.specs.declared.stretch.Stretch.{Stretch}
use Rattle.ics_zone.proofs.learned_zone.LearnedZone.moment.Goals as goal

pub returns-in-Some : goal.returns-in-Some
returns-in-Some c =
    let stretch : Stretch = c.in-Some.stretch in
    let local : ℤ = seconds_at c.args.local.day c.args.local.second in
    let same : c.seconds-seconds.result ≡ local = c.seconds-seconds.ensures in
    let own : SFits w64 c.seconds-seconds.result = search rules in
    let held = simp (to_z-of_z, own) at c.in-Some.ensures.holds in
    let low : stretch.from ≤ℤ local = rw same at held.0 in
    let high : local <ℤ stretch.to = rw same at held.1 in
    let told : said_moment (jiff_said c.args.self.now) local ≡ local -ℤ stretch.offset = c.in-Some.ensures.is.moments local low high in
    let offset : SFits w64 stretch.offset = search rules in
    let second = c.args.local.second_in in
    let fits : SFits w64 (local -ℤ stretch.offset) = omega (arith, ints, c.requires, second, c.in-Some.ensures.is.short) in
    rw (to_z-of_z w64 c.seconds-seconds.result own, same, to_z-of_z w64 stretch.offset offset, to_z-of_z w64 (local -ℤ stretch.offset) fits, sym told)
    (record { means = rw c.self.view_is at c.picks.ensures; value = search rules })
