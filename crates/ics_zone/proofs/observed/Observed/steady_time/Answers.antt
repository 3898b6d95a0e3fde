use Rattle.std.proofs.Common.{arith, sym, subst, ◌≡◌, ◌-ℤ◌, w64, to_z, of_z}
use Rattle.std.proofs.lemmas.Int.{ints}
use Rattle.ics_zone.specs.ZoneOffsets.{zone_offset}
use Rattle.ics_zone.specs.Moments.{IsFirstTime}
use Rattle.ics_zone.proofs.JumpLemmas.{shown_once}
use Rattle.ics_zone.proofs.observed.Observed.steady_time.Goals as goal

pub returns : goal.returns
returns c =
    let about = c.in_ok-steady.ensures.over in
    let is : to_z w64 (of_z w64 (to_z w64 (of_z w64 c.args.seconds) -ℤ to_z w64 (of_z w64 c.from.result))) ≡ c.args.seconds -ℤ c.in_ok-steady.steady.offset =
    omega (arith, ints) in
    subst (IsFirstTime (zone_offset c.args.self.now.said.items) c.args.seconds) (sym is)
    (shown_once c.args.self.now c.args.seconds c.in_ok-steady.ensures.steady (omega (arith, ints)) (omega (arith, ints)))
