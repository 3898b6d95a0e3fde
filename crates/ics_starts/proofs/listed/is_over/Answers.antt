use Rattle.std.proofs.Common.{◌≡◌, ◌-ℤ◌, ◌∙◌, Bool, ◌&&◌, true, ap, sym, arith, int_le, pos, to_z, of_z, w64}
use Rattle.std.proofs.lemmas.Int.{ints}
use Rattle.ics_event.specs.Event.{stamp_seconds}
use Rattle.ics_fields.specs.declared.local.Local.{Local}
use Rattle.ics_fields.specs.Locals.{local_seconds, whole_days}
use Rattle.ics_listing.proofs.Cases.{moment-back}
use Rattle.ics_starts.specs.Found.{span_local}
use Rattle.ics_zone.proofs.Cases.{true_int_le}
use Rattle.ics_starts.proofs.StretchLemmas.{seconds-of}
use Rattle.ics_starts.proofs.listed.is_over.Goals as goal

pub returns-then-seconds-by : goal.returns-then-seconds-by
returns-then-seconds-by c =
    let w = c.args.window.now in
    let start = stamp_seconds c.args.start.stamp in
    let from = w.from -ℤ whole_days 6 in
    let by : to_z w64 (of_z w64 (to_z w64 (of_z w64 c.args.window.now.from) -ℤ pos 518400)) ≡ c.args.window.now.from -ℤ whole_days 6 =
    omega (arith, ints, w.not_early, w.ordered, w.not_late) in
    let at : to_z w64 (of_z w64 c.seconds.result) ≡ stamp_seconds c.args.start.stamp =
    moment-back c.seconds.result c.seconds.type_inv
    ∙ (c.seconds.ensures ∙ (ap (λ (l : Local). local_seconds l) c.local_of.ensures ∙ seconds-of c.args.start.stamp)) in
    let begun : int_le start from ≡ true = true_int_le start from (omega (arith, ints, at, by, c.if-seconds-by.true)) in
    let ended : to_z w64 (of_z w64 c.span_local.result) ≡ span_local c.args.start c.args.length =
    moment-back c.span_local.result c.span_local.type_inv ∙ c.span_local.ensures in
    (λ i. int_le (ended i) (by i)) ∙ sym (ap (λ (b : Bool). b && int_le (span_local c.args.start c.args.length) from) begun)
