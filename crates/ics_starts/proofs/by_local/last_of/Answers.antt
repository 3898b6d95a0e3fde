use Rattle.std.proofs.Common.{◌≡◌, ◌∙◌, sym, ap, subst, arith, w64, to_z, of_z}
use Rattle.std.proofs.lemmas.Int.{int_max_is, ints}
use Rattle.ics_event.specs.Event.{stamp_seconds}
use Rattle.ics_fields.specs.declared.local.Local.{Local}
use Rattle.ics_fields.specs.Locals.{local_seconds}
use Rattle.ics_listing.proofs.Cases.{moment-back}
use Rattle.ics_starts.specs.Found.{span_local}
use Rattle.ics_starts.specs.Inner.ByLocal.{IsEndedBy}
use Rattle.ics_starts.proofs.StretchLemmas.{seconds-of}
use Rattle.ics_starts.proofs.by_local.last_of.Goals as goal

pub returns-in-Span : goal.returns-in-Span
returns-in-Span c =
    let start = c.in-Span.start in
    let local : c.seconds-local.result ≡ stamp_seconds c.in-Span.start.stamp =
    c.seconds-local.ensures ∙ (ap (λ (l : Local). local_seconds l) c.local_of.ensures ∙ seconds-of start.stamp) in
    let end : to_z w64 (of_z w64 c.span_local.result) ≡ span_local c.in-Span.start c.in-Span.length =
    moment-back c.span_local.result c.span_local.type_inv ∙ c.span_local.ensures in
    let begin : to_z w64 (of_z w64 c.seconds-local.result) ≡ stamp_seconds c.in-Span.start.stamp =
    moment-back c.seconds-local.result c.seconds-local.type_inv ∙ local in
    let back : to_z w64 (of_z w64 c.max.result) ≡ c.max.result = moment-back c.max.result c.max.type_inv in
    subst (IsEndedBy (to_z w64 (of_z w64 c.max.result))) (sym c.in-Span.is)
    (omega (arith, ints, int_max_is, c.max.ensures.value, end, begin, back), omega (arith, ints, int_max_is, c.max.ensures.value, end, begin, back))
