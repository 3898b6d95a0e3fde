use Rattle.std.proofs.Common.{rules, ◌≡◌, ◌-ℤ◌, ◌+ℤ◌, pos, sym, ◌∙◌, arith, to_z, of_z, w64}
use Rattle.std.proofs.lemmas.Int.{ints, to_z-of_z}
use Rattle.ics_zone.specs.Inner.Near.{offset_near}
use Rattle.ics_listing.proofs.Cases.{moment-back}
use Rattle.ics_starts.specs.Clocks.{display_clock}
use Rattle.ics_days.proofs.ShownLemmas.{apart-fits, begin-fits, last-high, last-instant, last-short, is-shown, last-moment, shown-to}
use Rattle.ics_days.proofs.date.latest_local.Goals as goal

pub stretch-stretch-requires : goal.stretch-stretch-requires
stretch-stretch-requires c =
    let shows = c.seconds-local.ensures ∙ (rw (last-instant c.args.window.now).0 at c.local.ensures) in
    let moment = last-moment c.args.window.now shows (offset_near c.args.display.now (c.args.window.now.to -ℤ pos 1)) in
    rw (moment-back c.seconds-local.result c.seconds-local.type_inv) moment

pub is_meant-requires-clause-local : goal.is_meant-requires-clause-local
is_meant-requires-clause-local c =
    let shows = c.seconds-local.ensures ∙ (rw ((last-instant c.args.window.now).0) at c.local.ensures) in
    let moment = last-moment c.args.window.now shows (offset_near c.args.display.now (c.args.window.now.to -ℤ pos 1)) in
    rw (moment-back c.seconds-local.result c.seconds-local.type_inv) moment

pub returns-clause-shown : goal.returns-clause-shown
returns-clause-shown c = λ t low high.
    let w = c.args.window.now in
    let b = c.requires in
    let bound = (b.offsets t low high).1 in
    omega (arith, ints, bound, high, b.most_short, w.ordered, w.not_early, w.not_late)

pub overflow_sub-begin : goal.overflow_sub-begin
overflow_sub-begin c =
    let b = c.requires in
    let shows = c.seconds-local.ensures ∙ (rw ((last-instant c.args.window.now).0) at c.local.ensures) in
    let moment = last-moment c.args.window.now shows (offset_near c.args.display.now (c.args.window.now.to -ℤ pos 1)) in
    let local = moment-back c.seconds-local.result c.seconds-local.type_inv in
    let last = (last-instant c.args.window.now).0 in
    let shown = is-shown (display_clock c.args.display.now) c.stretch-stretch.result c.stretch-stretch.ensures shows
    (rw (local, last) at (sym c.is_meant.ensures ∙ c.if-is_meant.true)) in
    let edge : to_z w64 (of_z w64 c.stretch-stretch.result.from) ≡ c.stretch-stretch.result.from = search rules in
    let apart = to_z-of_z w64 (c.seconds-local.result -ℤ pos 259_200) (apart-fits c.seconds-local.result moment).1 in
    let begin = rw (local, edge, apart) at c.max-begin.ensures.value in
    let short = b.most_short in
    let fits = begin-fits shown begin c.args.bounds.most moment short in
    let back = moment-back c.max-begin.result c.max-begin.type_inv in
    let offset : to_z w64 (of_z w64 c.stretch-stretch.result.offset) ≡ c.stretch-stretch.result.offset = search rules in
    rw back fits.0

pub overflow_sub-begin-then-is_meant : goal.overflow_sub-begin-then-is_meant
overflow_sub-begin-then-is_meant c =
    let b = c.requires in
    let shows = c.seconds-local.ensures ∙ (rw ((last-instant c.args.window.now).0) at c.local.ensures) in
    let moment = last-moment c.args.window.now shows (offset_near c.args.display.now (c.args.window.now.to -ℤ pos 1)) in
    let local = moment-back c.seconds-local.result c.seconds-local.type_inv in
    let last = (last-instant c.args.window.now).0 in
    let shown = is-shown (display_clock c.args.display.now) c.stretch-stretch.result c.stretch-stretch.ensures shows
    (rw (local, last) at (sym c.is_meant.ensures ∙ c.if-is_meant.true)) in
    let edge : to_z w64 (of_z w64 c.stretch-stretch.result.from) ≡ c.stretch-stretch.result.from = search rules in
    let apart = to_z-of_z w64 (c.seconds-local.result -ℤ pos 259_200) (apart-fits c.seconds-local.result moment).1 in
    let begin = rw (local, edge, apart) at c.max-begin.ensures.value in
    let short = b.most_short in
    let fits = begin-fits shown begin c.args.bounds.most moment short in
    let back = moment-back c.max-begin.result c.max-begin.type_inv in
    let offset : to_z w64 (of_z w64 c.stretch-stretch.result.offset) ≡ c.stretch-stretch.result.offset = search rules in
    rw (back, to_z-of_z w64 (c.max-begin.result -ℤ pos 1) fits.0, offset) fits.1.0

pub overflow_add-begin : goal.overflow_add-begin
overflow_add-begin c =
    let b = c.requires in
    let shows = c.seconds-local.ensures ∙ (rw ((last-instant c.args.window.now).0) at c.local.ensures) in
    let moment = last-moment c.args.window.now shows (offset_near c.args.display.now (c.args.window.now.to -ℤ pos 1)) in
    let local = moment-back c.seconds-local.result c.seconds-local.type_inv in
    let last = (last-instant c.args.window.now).0 in
    let shown = is-shown (display_clock c.args.display.now) c.stretch-stretch.result c.stretch-stretch.ensures shows
    (rw (local, last) at (sym c.is_meant.ensures ∙ c.if-is_meant.true)) in
    let edge : to_z w64 (of_z w64 c.stretch-stretch.result.from) ≡ c.stretch-stretch.result.from = search rules in
    let apart = to_z-of_z w64 (c.seconds-local.result -ℤ pos 259_200) (apart-fits c.seconds-local.result moment).1 in
    let begin = rw (local, edge, apart) at c.max-begin.ensures.value in
    let short = b.most_short in
    let fits = begin-fits shown begin c.args.bounds.most moment short in
    let back = moment-back c.max-begin.result c.max-begin.type_inv in
    let offset : to_z w64 (of_z w64 c.stretch-stretch.result.offset) ≡ c.stretch-stretch.result.offset = search rules in
    let most : to_z w64 (of_z w64 c.args.bounds.most) ≡ c.args.bounds.most = search rules in
    let before = to_z-of_z w64 (c.max-begin.result -ℤ pos 1) fits.0 in
    let moved = to_z-of_z w64 ((c.max-begin.result -ℤ pos 1) -ℤ c.stretch-stretch.result.offset) fits.1.0 in
    rw (back, before, offset, moved, most) fits.1.1

pub returns-then-is_meant : goal.returns-then-is_meant
returns-then-is_meant c =
    let b = c.requires in
    let w = c.args.window.now in
    let here = b.offsets (c.args.window.now.to -ℤ pos 1) (omega (arith, ints, w.ordered)) (omega (arith, ints)) in
    let shows = c.seconds-local.ensures ∙ (rw ((last-instant c.args.window.now).0) at c.local.ensures) in
    let moment = last-moment c.args.window.now shows (offset_near c.args.display.now (c.args.window.now.to -ℤ pos 1)) in
    let local = moment-back c.seconds-local.result c.seconds-local.type_inv in
    let last = (last-instant c.args.window.now).0 in
    let shown = is-shown (display_clock c.args.display.now) c.stretch-stretch.result c.stretch-stretch.ensures shows
    (rw (local, last) at (sym c.is_meant.ensures ∙ c.if-is_meant.true)) in
    let edge : to_z w64 (of_z w64 c.stretch-stretch.result.from) ≡ c.stretch-stretch.result.from = search rules in
    let apart = to_z-of_z w64 (c.seconds-local.result -ℤ pos 259_200) (apart-fits c.seconds-local.result moment).1 in
    let begin = rw (local, edge, apart) at c.max-begin.ensures.value in
    let short = b.most_short in
    let fits = begin-fits shown begin c.args.bounds.most moment short in
    let back = moment-back c.max-begin.result c.max-begin.type_inv in
    let offset : to_z w64 (of_z w64 c.stretch-stretch.result.offset) ≡ c.stretch-stretch.result.offset = search rules in
    let most : to_z w64 (of_z w64 c.args.bounds.most) ≡ c.args.bounds.most = search rules in
    let before = to_z-of_z w64 (c.max-begin.result -ℤ pos 1) fits.0 in
    let moved = to_z-of_z w64 ((c.max-begin.result -ℤ pos 1) -ℤ c.stretch-stretch.result.offset) fits.1.0 in
    let latest = to_z-of_z w64 (((c.max-begin.result -ℤ pos 1) -ℤ c.stretch-stretch.result.offset) +ℤ c.args.bounds.most) fits.1.1 in
    let value = rw (local, back, before, offset, moved, most, latest) at c.max.ensures.value in
    rw (moment-back c.max.result c.max.type_inv) (record {
      shown = λ t low high. shown-to shown begin value t (b.offsets t low high).1 (omega (arith, ints, high));
      near = last-short shown begin value short here.1 (offset_near c.args.display.now (c.args.window.now.to -ℤ pos 1));
      high = last-high shown begin value here.1;
    })
