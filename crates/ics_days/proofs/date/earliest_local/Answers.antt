use Rattle.std.proofs.Common.{rules, ◌≡◌, ◌-ℤ◌, ◌+ℤ◌, pos, sym, ◌∙◌, arith, to_z, of_z, w64}
use Rattle.std.proofs.lemmas.Int.{ints, to_z-of_z}
use Rattle.ics_zone.specs.Inner.Near.{offset_near}
use Rattle.ics_listing.proofs.Cases.{moment-back}
use Rattle.ics_starts.specs.Clocks.{display_clock}
use Rattle.ics_days.proofs.ShownLemmas.{apart-fits, end-fits, first-instant, first-low, first-short, is-shown, first-moment, shown-from}
use Rattle.ics_days.proofs.date.earliest_local.Goals as goal

pub stretch-stretch-requires : goal.stretch-stretch-requires
stretch-stretch-requires c =
    let shows = c.seconds-local.ensures ∙ (rw (first-instant c.args.window.now).0 at c.local.ensures) in
    let moment = first-moment c.args.window.now shows (offset_near c.args.display.now c.args.window.now.from) in
    rw (moment-back c.seconds-local.result c.seconds-local.type_inv) moment

pub is_meant-requires-clause-local : goal.is_meant-requires-clause-local
is_meant-requires-clause-local c =
    let shows = c.seconds-local.ensures ∙ (rw ((first-instant c.args.window.now).0) at c.local.ensures) in
    let moment = first-moment c.args.window.now shows (offset_near c.args.display.now c.args.window.now.from) in
    rw (moment-back c.seconds-local.result c.seconds-local.type_inv) moment

pub returns-clause-shown : goal.returns-clause-shown
returns-clause-shown c = λ t low high.
    let w = c.args.window.now in
    let b = c.requires in
    let bound = (b.offsets t low high).0 in
    omega (arith, ints, bound, low, b.least_short, w.ordered, w.not_early, w.not_late)

pub overflow_sub-end : goal.overflow_sub-end
overflow_sub-end c =
    let b = c.requires in
    let shows = c.seconds-local.ensures ∙ (rw ((first-instant c.args.window.now).0) at c.local.ensures) in
    let moment = first-moment c.args.window.now shows (offset_near c.args.display.now c.args.window.now.from) in
    let local = moment-back c.seconds-local.result c.seconds-local.type_inv in
    let from = (first-instant c.args.window.now).0 in
    let shown = is-shown (display_clock c.args.display.now) c.stretch-stretch.result c.stretch-stretch.ensures shows
    (rw (local, from) at (sym c.is_meant.ensures ∙ c.if-is_meant.true)) in
    let edge : to_z w64 (of_z w64 c.stretch-stretch.result.to) ≡ c.stretch-stretch.result.to = search rules in
    let apart = to_z-of_z w64 (c.seconds-local.result +ℤ pos 259_200) (apart-fits c.seconds-local.result moment).0 in
    let end = rw (local, edge, apart) at c.min-end.ensures.value in
    let short = b.least_short in
    let fits = end-fits shown end c.args.bounds.least moment short in
    let back = moment-back c.min-end.result c.min-end.type_inv in
    let offset : to_z w64 (of_z w64 c.stretch-stretch.result.offset) ≡ c.stretch-stretch.result.offset = search rules in
    rw (back, offset) fits.0

pub overflow_add-end : goal.overflow_add-end
overflow_add-end c =
    let b = c.requires in
    let shows = c.seconds-local.ensures ∙ (rw ((first-instant c.args.window.now).0) at c.local.ensures) in
    let moment = first-moment c.args.window.now shows (offset_near c.args.display.now c.args.window.now.from) in
    let local = moment-back c.seconds-local.result c.seconds-local.type_inv in
    let from = (first-instant c.args.window.now).0 in
    let shown = is-shown (display_clock c.args.display.now) c.stretch-stretch.result c.stretch-stretch.ensures shows
    (rw (local, from) at (sym c.is_meant.ensures ∙ c.if-is_meant.true)) in
    let edge : to_z w64 (of_z w64 c.stretch-stretch.result.to) ≡ c.stretch-stretch.result.to = search rules in
    let apart = to_z-of_z w64 (c.seconds-local.result +ℤ pos 259_200) (apart-fits c.seconds-local.result moment).0 in
    let end = rw (local, edge, apart) at c.min-end.ensures.value in
    let short = b.least_short in
    let fits = end-fits shown end c.args.bounds.least moment short in
    let back = moment-back c.min-end.result c.min-end.type_inv in
    let offset : to_z w64 (of_z w64 c.stretch-stretch.result.offset) ≡ c.stretch-stretch.result.offset = search rules in
    let least : to_z w64 (of_z w64 c.args.bounds.least) ≡ c.args.bounds.least = search rules in
    rw (back, offset, to_z-of_z w64 (c.min-end.result -ℤ c.stretch-stretch.result.offset) fits.0, least) fits.1

pub returns-then-is_meant : goal.returns-then-is_meant
returns-then-is_meant c =
    let b = c.requires in
    let w = c.args.window.now in
    let here = b.offsets c.args.window.now.from (omega (arith, ints)) w.ordered in
    let shows = c.seconds-local.ensures ∙ (rw ((first-instant c.args.window.now).0) at c.local.ensures) in
    let moment = first-moment c.args.window.now shows (offset_near c.args.display.now c.args.window.now.from) in
    let local = moment-back c.seconds-local.result c.seconds-local.type_inv in
    let from = (first-instant c.args.window.now).0 in
    let shown = is-shown (display_clock c.args.display.now) c.stretch-stretch.result c.stretch-stretch.ensures shows
    (rw (local, from) at (sym c.is_meant.ensures ∙ c.if-is_meant.true)) in
    let edge : to_z w64 (of_z w64 c.stretch-stretch.result.to) ≡ c.stretch-stretch.result.to = search rules in
    let apart = to_z-of_z w64 (c.seconds-local.result +ℤ pos 259_200) (apart-fits c.seconds-local.result moment).0 in
    let end = rw (local, edge, apart) at c.min-end.ensures.value in
    let short = b.least_short in
    let fits = end-fits shown end c.args.bounds.least moment short in
    let back = moment-back c.min-end.result c.min-end.type_inv in
    let offset : to_z w64 (of_z w64 c.stretch-stretch.result.offset) ≡ c.stretch-stretch.result.offset = search rules in
    let least : to_z w64 (of_z w64 c.args.bounds.least) ≡ c.args.bounds.least = search rules in
    let moved = to_z-of_z w64 (c.min-end.result -ℤ c.stretch-stretch.result.offset) fits.0 in
    let earliest = to_z-of_z w64 ((c.min-end.result -ℤ c.stretch-stretch.result.offset) +ℤ c.args.bounds.least) fits.1 in
    let value = rw (local, back, offset, moved, least, earliest) at c.min.ensures.value in
    rw (moment-back c.min.result c.min.type_inv) (record {
      shown = λ t low high. shown-from shown end value t (b.offsets t low high).0 low;
      near = first-short shown end value short here.0 (offset_near c.args.display.now c.args.window.now.from);
      low = first-low shown end value here.0;
    })
