use Rattle.std.proofs.Common.{rules, arith, sym, subst, ◌≡◌, ◌≤ℤ◌, ◌<ℤ◌, ◌+ℤ◌, ◌-ℤ◌, ℤ, w32, w64, SFits}
use Rattle.std.proofs.lemmas.Int.{to_z-of_z, ints}
use Rattle.ics_zone.specs.Stretches.{IsStretch}
use Rattle.ics_zone.specs.ZoneSaid.{jiff_said, said_moment, said_offset}
use Rattle.ics_zone.specs.declared.stretch.Stretch.{Stretch}
use Rattle.ics_zone.proofs.learned_zone.LearnedZone.offset_by.Goals as goal

pub overflow_cast-result : goal.overflow_cast-result
overflow_cast-result c =
    let stretch : Stretch = c.index-stretch.result.now in
    let is : IsStretch (said_offset (jiff_said c.args.self.now)) (said_moment (jiff_said c.args.self.now)) stretch = search rules in
    let short = is.shown_short in
    let fits : SFits w64 stretch.shown = search rules in
    let fits32 : SFits w32 stretch.shown = omega (arith, ints, short) in
    rw (to_z-of_z w64 stretch.shown fits) fits32

pub returns-then-local-stretch : goal.returns-then-local-stretch
returns-then-local-stretch c =
    let stretch : Stretch = c.index-stretch.result.now in
    let is : IsStretch (said_offset (jiff_said c.args.self.now)) (said_moment (jiff_said c.args.self.now)) stretch = search rules in
    let moment : ℤ = c.args.moment in
    let fits : SFits w64 stretch.shown = search rules in
    let fits32 : SFits w32 stretch.shown = omega (arith, ints, is.shown_short) in
    let from : SFits w64 stretch.from = search rules in
    let to : SFits w64 stretch.to = search rules in
    let offset : SFits w64 stretch.offset = search rules in
    let after = simp (to_z-of_z, from, offset) at c.if-stretch-local.true in
    let before = simp (to_z-of_z, to, offset) at c.if-local-stretch.true in
    let low : stretch.from ≤ℤ (moment +ℤ stretch.offset) = omega (arith, ints, after) in
    let high : (moment +ℤ stretch.offset) <ℤ stretch.to = omega (arith, ints, before) in
    let back : moment +ℤ stretch.offset -ℤ stretch.offset ≡ moment = omega (arith, ints) in
    rw (to_z-of_z w64 stretch.shown fits, to_z-of_z w32 stretch.shown fits32)
    (sym (subst (λ t. said_offset (jiff_said c.args.self.now) t ≡ stretch.shown) back (is.offsets (moment +ℤ stretch.offset) low high)))
