use Rattle.std.proofs.Common.{◌≡◌, w64, to_z, of_z, ◌-ℤ◌, if◌then◌else◌, sym, ◌∙◌, ap, arith}
use Rattle.std.proofs.lemmas.Int.{ints}
use Rattle.ics_starts.specs.Finish.{seconds_lasting}
use Rattle.ics_starts.specs.FileZones.{clocks_in}
use Rattle.ics_starts.proofs.starts.first_met.Goals as goal

pub returns-then-window : goal.returns-then-window
returns-then-window c =
    let w = c.args.window.now in
    let fits : to_z w64 (of_z w64 c.args.window.now.from) ≡ c.args.window.now.from = omega (arith, ints, w.not_early, w.ordered, w.not_late) in
    record {
      value = fits ∙ ap (λ b. if b then w.from else w.from -ℤ seconds_lasting (clocks_in c.args.zones) c.args.event.now) (sym c.if-window.true);
      late = omega (arith, ints, fits, w.not_early);
      early = omega (arith, ints, fits);
    }

pub returns-else-window : goal.returns-else-window
returns-else-window c =
    let w = c.args.window.now in
    let long = c.seconds_lasting in
    let base : to_z w64 (of_z w64 (to_z w64 (of_z w64 c.args.window.now.from) -ℤ to_z w64 (of_z w64 c.seconds_lasting.result)))
    ≡ c.args.window.now.from -ℤ seconds_lasting (clocks_in c.args.zones) c.args.event.now =
    omega (arith, ints, long.type_inv, long.ensures.value, long.ensures.least, long.ensures.most, w.not_early, w.not_late, w.ordered) in
    record {
      value = base ∙ ap (λ b. if b then w.from else w.from -ℤ seconds_lasting (clocks_in c.args.zones) c.args.event.now) (sym c.if-window.false);
      late = omega (arith, ints, base, long.ensures.value, long.ensures.most, w.not_early);
      early = omega (arith, ints, base, long.ensures.value, long.ensures.least, w.ordered);
    }
