use Rattle.std.proofs.Common.{◌≡◌, pos, ◌+ℤ◌, ◌*◌, w64, refl, arith, to_z-of_z, SFits}
use Rattle.std.proofs.lemmas.Int.{ints}
use Rattle.ics_listing.specs.FileClocks.{Clock}
use Rattle.ics_starts.specs.Clocks.{clock_of, local_at}
use Rattle.ics_starts.specs.FileZones.{clocks_in}
use Rattle.ics_starts.proofs.InstantLemmas.{moved}
use Rattle.ics_starts.proofs.finish.later_by.Goals as goal

pub returns-clause-value : goal.returns-clause-value
returns-clause-value c =
    let fits : SFits w64 c.args.start = c.ranges.start in
    let shown = simp to_z-of_z at c.days_after.ensures.value in
    let clock : Clock = clock_of (clocks_in c.args.zones) c.args.time in
    let value : c.days_after.result ≡ clock.moment (local_at clock c.args.start +ℤ pos (c.args.duration.days * 86_400)) =
    moved clock.moment refl shown (omega (arith, ints)) in
    omega (arith, ints, value)
