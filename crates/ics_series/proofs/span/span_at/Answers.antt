use Rattle.std.proofs.Common.{◌≡◌, None, Some, map, rules, sym, ◌∙◌, ap, arith, w64, to_z, of_z}
use Rattle.std.proofs.lemmas.Int.{ints}
use Rattle.ics_file.specs.File.{said_by}
use Rattle.ics_starts.specs.Clocks.{display_clock}
use Rattle.ics_listing.specs.Entry.{Entry}
use Rattle.ics_starts.specs.SingleEvents.{single_entry}
use Rattle.ics_series.specs.Versions.{seen}
use Rattle.ics_series.proofs.SpanLemmas.{span-recurring, span-single}
use Rattle.ics_series.proofs.span.span_at.Goals as goal

pub returns-then-not-is_single : goal.returns-then-not-is_single
returns-then-not-is_single c =
    span-recurring (map said_by c.args.files.now) (display_clock c.args.display.now) c.args.window.now (seen c.args.version.now) c.event-event.result.now
    c.event-event.ensures.event (sym c.is_single.ensures ∙ c.if-not-is_single.true)

pub returns-in-None : goal.returns-in-None
returns-in-None c =
    let w = c.args.window.now in
    let fits : to_z w64 (of_z w64 c.args.window.now.to) ≡ c.args.window.now.to = omega (arith, ints, w.ordered, w.not_early, w.not_late) in
    let begun = rw c.in-None.is at c.begun.ensures in
    (λ i. record { first = fits i; last = fits i })
    ∙ span-single (map said_by c.args.files.now) (display_clock c.args.display.now) c.args.window.now (seen c.args.version.now) c.event-event.result.now
    c.event-event.ensures.event None (sym c.is_single.ensures ∙ c.if-not-is_single.false) c.zones-zones.ensures.clocks begun

pub returns-in-Some : goal.returns-in-Some
returns-in-Some c =
    let o = c.occurrence-occurrence in
    let start : to_z w64 (of_z w64 c.occurrence-occurrence.result.start) ≡ c.occurrence-occurrence.result.start = search rules in
    let finish : to_z w64 (of_z w64 c.occurrence-occurrence.result.finish) ≡ c.occurrence-occurrence.result.finish = search rules in
    let begun = rw c.in-Some.is at c.begun.ensures in
    (λ i. record { first = (start ∙ ap (λ (e : Entry). e.start) o.ensures) i; last = (finish ∙ ap (λ (e : Entry). e.finish) o.ensures) i })
    ∙ span-single (map said_by c.args.files.now) (display_clock c.args.display.now) c.args.window.now (seen c.args.version.now) c.event-event.result.now
    c.event-event.ensures.event (Some (single_entry c.in-Some.single)) (sym c.is_single.ensures ∙ c.if-not-is_single.false) c.zones-zones.ensures.clocks begun
