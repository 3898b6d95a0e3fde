use Rattle.std.proofs.Common.{◌≡◌, ◌∙◌, sym, ap}
use Rattle.std.proofs.lemmas.Slice.Eq.{bytes_eq-Decides}
use Rattle.ics_event.specs.declared.event.Event.{Event}
use Rattle.ics_continued.specs.declared.continued.Continued.{Continued}
use Rattle.ics_series.proofs.KnownLemmas.{kept-own}
use Rattle.ics_series.proofs.kept.take_kept.Goals as goal

pub returns-then-eq-clause-of : goal.returns-then-eq-clause-of
returns-then-eq-clause-of c = λ files display are by is e.
    let same : c.as_slice.result.now ≡ c.as_slice-in-Some.result.now =
    (bytes_eq-Decides c.as_slice.result.now c.as_slice-in-Some.result.now).0 (sym c.eq.ensures ∙ c.if-eq.true) in
    let mine : c.as_slice-in-Some.result.now ≡ c.args.event.now.uid = c.as_slice-in-Some.ensures ∙ ap (λ (e : Event). e.uid) c.event.view_is in
    let own : c.as_slice.result.now ≡ c.event-in-Some.result.now.uid = c.as_slice.ensures ∙ ap (λ (e : Event). e.uid) c.behind-deref.view_is in
    let of : c.event-in-Some.result ≡ c.in-Some.known.value.series.event =
    c.event-in-Some.ensures ∙ ap (λ (k : Continued). k.series.event) c.deref.ensures in
    kept-own files display c.args.event.now c.in-Some.known by is e (rw c.in-Some.is at (c.take_at.ensures.taken files display are))
    (sym (own ∙ ap (λ e. e.now.uid) of) ∙ (same ∙ mine))
