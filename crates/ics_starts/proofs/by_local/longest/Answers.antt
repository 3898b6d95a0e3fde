use Rattle.std.proofs.Common.{◌≡◌, ◌≤◌, ◌∙◌, ◌-ℤ◌, Some, List, length, refl, sym, ap, subst, rules, arith, slice_get, w64, to_z, of_z, ⊎_elim}
use Rattle.std.proofs.lemmas.Int.{ints}
use Rattle.std.proofs.lemmas.Option.{slice_get_read, slice_get_within}
use Rattle.ics_event.specs.declared.event.Event.{Event}
use Rattle.ics_event.specs.Event.{stamp_seconds, IsEvent, IsRdate, Rdate}
use Rattle.ics_fields.specs.declared.local.Local.{Local}
use Rattle.ics_fields.specs.Locals.{local_seconds}
use Rattle.ics_listing.proofs.Cases.{moment-back}
use Rattle.ics_listing.proofs.StartOrderLemmas.{all-at}
use Rattle.ics_starts.specs.Found.{span_local}
use Rattle.ics_starts.specs.Inner.ByLocal.{IsLastingBy}
use Rattle.ics_starts.specs.Starts.{given_by}
use Rattle.ics_starts.proofs.ByLocalLemmas.{greater, lasting-next, span-short}
use Rattle.ics_starts.proofs.InstantLemmas.{written}
use Rattle.ics_starts.proofs.StartSourceLemmas.{given-value}
use Rattle.ics_starts.proofs.StretchLemmas.{seconds-of}
use Rattle.ics_starts.proofs.by_local.longest.Goals as goal
use Rattle.ics_starts.proofs.by_local.longest.Goals.{in-Span, in_default}

pub loop-rdate-preserved : goal.loop-rdate-preserved
loop-rdate-preserved c =
    let event = c.args.event.now in
    let n = c.loop-rdate.rdate-index in
    let x = c.rdate-item.result in
    let old = to_z w64 c.loop-rdate.most-bits in
    let new = to_z w64 c.match-given_by.most-bits in
    let sound : IsEvent c.args.event.now = search rules in
    let items : c.rdates-rdate-items.result.now ≡ event.rdates = c.rdates-rdate-items.ensures.value in
    let there : slice_get event.rdates n ≡ Some x =
    subst (λ (xs : List Rdate). slice_get xs n ≡ Some x) items
    (slice_get_read c.rdates-rdate-items.result.now (length c.rdates-rdate-items.result.now) n x refl c.loop-rdate-test.true c.rdate-item.is) in
    let given : c.given_by.result ≡ given_by event.start x = c.given_by.ensures ∙ ap (λ (v : Event). given_by v.start x) c.event.view_is in
    let value = given-value event.start event.start.stamp x sound.start (all-at IsRdate event.rdates n x sound.rdates there) in
    let was = c.loop-rdate.invariant in
    elim c.match-given_by.branch [
      | in-Span w ↦
          let start = w.in-Span.start in
          let is = sym given ∙ w.in-Span.is in
          let span = subst IsRdate is value in
          let years = written start.stamp span.0.years in
          let short = span-short start w.in-Span.length span.0 span.1 in
          let local : w.seconds-local.result ≡ stamp_seconds w.in-Span.start.stamp =
          w.seconds-local.ensures ∙ (ap (λ (l : Local). local_seconds l) w.local_of.ensures ∙ seconds-of start.stamp) in
          let end : to_z w64 (of_z w64 w.span_local.result) ≡ span_local w.in-Span.start w.in-Span.length =
          moment-back w.span_local.result w.span_local.type_inv ∙ w.span_local.ensures in
          let begin : to_z w64 (of_z w64 w.seconds-local.result) ≡ stamp_seconds w.in-Span.start.stamp =
          moment-back w.seconds-local.result w.seconds-local.type_inv ∙ local in
          let lasts :
          to_z w64 (of_z w64 (to_z w64 (of_z w64 w.span_local.result) -ℤ to_z w64 (of_z w64 w.seconds-local.result)))
          ≡ span_local w.in-Span.start w.in-Span.length -ℤ stamp_seconds w.in-Span.start.stamp =
          omega (arith, ints, end, begin, short.0, short.1, years.0, years.1) in
          let most = w.most-is ∙ moment-back w.max-most.result w.max-most.type_inv in
          let span_by = to_z w64 (of_z w64 w.span_local.result) in
          let max = greater old (to_z w64 (of_z w64 (span_by -ℤ to_z w64 (of_z w64 w.seconds-local.result)))) w.max-most.result w.max-most.ensures in
          record {
            least = omega (arith, ints, was.least, most, max.0);
            most = ⊎_elim (λ e. omega (arith, ints, was.most, most, e)) (λ e. omega (arith, ints, most, e, lasts, short.0)) max.2;
            each = lasting-next event {old = old} {new = new} {n = n} x there (omega (arith, ints, most, max.0))
                (subst (IsLastingBy new) (sym is) (omega (arith, ints, most, max.1, lasts))) was.each;
          }
      | in_default w ↦ record {
        least = omega (arith, ints, was.least, w.most-is);
        most = omega (arith, ints, was.most, w.most-is);
        each = lasting-next event {old = old} {new = new} {n = n} x there (omega (arith, ints, w.most-is))
            (subst (IsLastingBy new) (sym (sym given ∙ w.in_default.is)) tt) was.each;
      }
    ]

pub returns : goal.returns
returns c =
    let event = c.args.event.now in
    let n = c.loop-rdate.rdate-index in
    let items : c.rdates-rdate-items.result.now ≡ event.rdates = c.rdates-rdate-items.ensures.value in
    let over : length event.rdates ≤ n = subst (λ (xs : List Rdate). length xs ≤ n) items c.loop-rdate-test.false in
    record {
      least = c.loop-rdate.invariant.least;
      most = c.loop-rdate.invariant.most;
      each = λ k rdate stands. c.loop-rdate.invariant.each k rdate (omega (arith, over, slice_get_within event.rdates k rdate stands)) stands;
    }
