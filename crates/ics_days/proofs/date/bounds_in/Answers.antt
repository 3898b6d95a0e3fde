use Rattle.std.proofs.Common.{rules, ◌≡◌, ◌+ℤ◌, ℤ, sym, ◌∙◌, arith, to_z, of_z, w64, int_le}
use Rattle.std.proofs.lemmas.Bool.{and_parts}
use Rattle.std.proofs.lemmas.Int.{ints}
use Rattle.ics_zone.specs.Inner.Near.{offset_near}
use Rattle.ics_zone.specs.Seconds.{IsNear}
use Rattle.ics_zone.proofs.Cases.{int_le_true}
use Rattle.ics_listing.proofs.Cases.{moment-back}
use Rattle.ics_listing.specs.declared.window.Window.{Window}
use Rattle.ics_starts.specs.Clocks.{display_clock}
use Rattle.ics_days.proofs.ShownLemmas.{first-instant, first-moment, is-shown, one-from}
use Rattle.ics_days.proofs.date.bounds_in.Goals as goal

-- what the offset shows at the window's end fits
end-fits : (w : Window) (offset : ℤ) → IsNear offset → to_z w64 (of_z w64 (to_z w64 (of_z w64 w.to) +ℤ to_z w64 (of_z w64 offset))) ≡ w.to +ℤ offset
end-fits w offset short = omega (arith, ints, short.0, short.1, w.ordered, w.not_early, w.not_late)

pub stretch-stretch-requires : goal.stretch-stretch-requires
stretch-stretch-requires c =
    let shows = c.seconds-local.ensures ∙ (rw (first-instant c.args.window.now).0 at c.local.ensures) in
    let moment = first-moment c.args.window.now shows (offset_near c.args.display.now c.args.window.now.from) in
    rw (moment-back c.seconds-local.result c.seconds-local.type_inv) moment

pub is_meant-meant-requires-clause-local : goal.is_meant-meant-requires-clause-local
is_meant-meant-requires-clause-local c =
    let shows = c.seconds-local.ensures ∙ (rw (first-instant c.args.window.now).0 at c.local.ensures) in
    let moment = first-moment c.args.window.now shows (offset_near c.args.display.now c.args.window.now.from) in
    rw (moment-back c.seconds-local.result c.seconds-local.type_inv) moment

pub returns-then-meant-held : goal.returns-then-meant-held
returns-then-meant-held c =
    let w = c.args.window.now in
    let s = c.stretch-stretch.result in
    let begin = first-instant c.args.window.now in
    let shows = c.seconds-local.ensures ∙ (rw begin.0 at c.local.ensures) in
    let local = moment-back c.seconds-local.result c.seconds-local.type_inv in
    let end = to_z w64 (of_z w64 (to_z w64 (of_z w64 c.args.window.now.to) +ℤ to_z w64 (of_z w64 c.stretch-stretch.result.offset))) in
    let reached = to_z w64 (of_z w64 c.stretch-stretch.result.to) in
    let both = and_parts c.is_meant-meant.result (int_le end reached) c.if-meant-held.true in
    let shown = is-shown (display_clock c.args.display.now) s c.stretch-stretch.ensures shows
    (rw (local, begin.0) at (sym c.is_meant-meant.ensures ∙ both.0)) in
    let near = shown.stretch.short in
    let short : IsNear c.stretch-stretch.result.offset = (omega (arith, ints, near.0), omega (arith, ints, near.1)) in
    let edge : to_z w64 (of_z w64 c.stretch-stretch.result.to) ≡ c.stretch-stretch.result.to = search rules in
    let offset : to_z w64 (of_z w64 c.stretch-stretch.result.offset) ≡ c.stretch-stretch.result.offset = search rules in
    let held = rw (end-fits w s.offset short, edge) at (int_le_true end reached both.1) in
    rw offset (record {
      offsets = λ t low high.
          let one = one-from shown w.to held t low high in
          (omega (arith, ints, one), omega (arith, ints, one));
      least_short = short;
      most_short = short;
    })

pub returns : goal.returns
returns c =
    let b = c.bounds.ensures in
    let least = b.least_short in
    let most = b.most_short in
    record {
      offsets = λ t low high. b.offsets t;
      least_short = (omega (arith, ints, least.0), omega (arith, ints, least.1));
      most_short = (omega (arith, ints, most.0), omega (arith, ints, most.1));
    }
