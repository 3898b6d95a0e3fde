use Rattle.std.proofs.Common.{◌≡◌, ◌∙◌, ap, pos, ◌+ℤ◌, to_z, of_z, w64, arith, int_le}
use Rattle.std.proofs.lemmas.Int.{ints}
use Rattle.ics_event.specs.Event.{stamp_seconds}
use Rattle.ics_fields.specs.declared.local.Local.{Local}
use Rattle.ics_fields.specs.Locals.{local_seconds, whole_days}
use Rattle.ics_listing.proofs.Cases.{moment-back}
use Rattle.ics_starts.proofs.StretchLemmas.{seconds-of}
use Rattle.ics_starts.proofs.instants.is_past.Goals as goal

pub returns : goal.returns
returns c =
    let w = c.args.window.now in
    let end : to_z w64 (of_z w64 (to_z w64 (of_z w64 c.args.window.now.to) +ℤ pos 172800)) ≡ c.args.window.now.to +ℤ whole_days 2 =
    omega (arith, ints, w.not_early, w.ordered, w.not_late) in
    let fits = moment-back c.seconds.result c.seconds.type_inv in
    let at : to_z w64 (of_z w64 c.seconds.result) ≡ stamp_seconds c.args.time.stamp =
    fits ∙ (c.seconds.ensures ∙ (ap (λ (l : Local). local_seconds l) c.local_of.ensures ∙ seconds-of c.args.time.stamp)) in
    λ i. int_le (end i) (at i)
