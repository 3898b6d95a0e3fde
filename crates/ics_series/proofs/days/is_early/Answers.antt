use Rattle.std.proofs.Common.{◌≡◌, ◌+ℤ◌, ◌*ℤ◌, ℤ, pos, arith, sym, SFits, to_z, of_z, w32, w64}
use Rattle.std.proofs.lemmas.Int.{ints}
use Rattle.ics_fields.specs.Locals.{midnight}
use Rattle.ics_listing.specs.declared.window.Window.{Window}
use Rattle.ics_starts.specs.Clocks.{display_clock}
use Rattle.ics_zone.proofs.Cases.{int_lt_true}
use Rattle.ics_zone.specs.Seconds.{IsNear}
use Rattle.ics_days.proofs.NearDayLemmas.{not-early}
use Rattle.ics_series.proofs.days.is_early.Goals as goal

-- the midnight that ends a day fits
midnight-is : (day : ℤ) {read : ℤ} → SFits w32 day → read ≡ to_z w32 (of_z w32 day)
    → to_z w64 (of_z w64 (to_z w64 (of_z w64 (to_z w64 (of_z w64 read) +ℤ pos 1)) *ℤ pos 86_400)) ≡ midnight (day +ℤ pos 1)
midnight-is day fits e = omega (arith, ints, e, fits)

-- so does the local that an offset shows where a window begins
shown-is : (w : Window) (offset : ℤ) → IsNear offset → to_z w64 (of_z w64 (to_z w64 (of_z w64 w.from) +ℤ to_z w64 (of_z w64 offset))) ≡ w.from +ℤ offset
shown-is w offset short = omega (arith, ints, short.0, short.1, w.ordered, w.not_early, w.not_late)

pub returns-then-window-bounds : goal.returns-then-window-bounds
returns-then-window-bounds c =
    let w = c.args.window.now in
    let shown = to_z w64 (of_z w64 (to_z w64 (of_z w64 c.args.window.now.from) +ℤ to_z w64 (of_z w64 c.args.bounds.most))) in
    let end = to_z w64 (of_z w64 (to_z w64 (of_z w64 (to_z w64 (of_z w64 c.from.result) +ℤ pos 1)) *ℤ pos 86_400)) in
    let less = rw (shown-is w c.args.bounds.most c.requires.most_short, midnight-is c.args.day c.ranges.day c.from.ensures)
    at (int_lt_true shown end c.if-window-bounds.true) in
    sym (not-early (display_clock c.args.display.now) w c.args.bounds c.requires c.args.day less)
