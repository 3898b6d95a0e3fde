use Rattle.std.proofs.Common.{◌≡◌, ◌∙◌, ℤ, arith, rules, to_z, of_z, w64, w32, pos, ◌-ℤ◌, ◌+ℤ◌}
use Rattle.std.proofs.lemmas.Int.{ints}
use Rattle.ics_zone.specs.Seconds.{IsNear}
use Rattle.ics_listing.specs.declared.window.Window.{Window}
use Rattle.ics_days.proofs.near_days.last_near.Goals as goal

-- what the greater offset shows at the window's last instant fits
shown-fits : (w : Window) (most : ℤ) → IsNear most
    → to_z w64 (of_z w64 (to_z w64 (of_z w64 (to_z w64 (of_z w64 w.to) -ℤ pos 1)) +ℤ to_z w64 (of_z w64 most))) ≡ (w.to -ℤ pos 1) +ℤ most
shown-fits w most short = omega (arith, ints, short.0, short.1, w.ordered, w.not_early, w.not_late)

pub of_seconds-requires : goal.of_seconds-requires
of_seconds-requires c =
    let w = c.args.window.now in
    let b = c.requires in
    let fits = shown-fits w c.args.bounds.most b.most_short in (
      omega (arith, ints, fits, w.ordered, w.not_early, w.not_late, b.most_short.0, b.most_short.1),
      omega (arith, ints, fits, w.ordered, w.not_early, w.not_late, b.most_short.0, b.most_short.1),
    )

pub returns : goal.returns
returns c =
    let day : to_z w32 (of_z w32 c.of_seconds.result.day) ≡ c.of_seconds.result.day = search rules in
    day ∙ rw (shown-fits c.args.window.now c.args.bounds.most c.requires.most_short) at c.of_seconds.ensures.day
