use Rattle.std.proofs.Common.{◌≡◌, ◌<◌, inl, inr, Some, refl, sym, ◌∙◌, ap, subst, arith, slice_get, rules, w64, to_z, of_z, SFits}
use Rattle.std.proofs.lemmas.Bool.{cases_lt}
use Rattle.std.proofs.lemmas.Int.{ints}
use Rattle.ics_event.specs.declared.event.Event.{Event}
use Rattle.ics_event.specs.Event.{Rdate}
use Rattle.ics_listing.proofs.Cases.{some-same}
use Rattle.ics_listing.specs.declared.start.StartSource.TheVariants.{Listed}
use Rattle.ics_starts.specs.Quiet.{IsAgain}
use Rattle.ics_starts.specs.FileZones.{clocks_in, IsTimeOf}
use Rattle.ics_starts.specs.Inner.ByLocal.{count_in, place_in}
use Rattle.ics_starts.specs.Starts.{given_by}
use Rattle.ics_listing.specs.StartTimes.{time_of}
use Rattle.ics_starts.proofs.NearLemmas.{next-near, value-at, within-rdates}
use Rattle.ics_starts.proofs.ZoneLemmas.{given-time}
use Rattle.ics_starts.proofs.listed.listed_again.Goals as goal

pub lesser_again-least-requires-in-loop-k : goal.lesser_again-least-requires-in-loop-k
lesser_again-least-requires-in-loop-k c =
    let event = c.args.event.now in
    let near = c.next_rdates-near.result in
    let k = c.loop-k.k in
    let r = c.index-rdates-at.result in
    let below : k < count_in near = subst (λ n. k < n) c.count-k-end.ensures c.loop-k-test.true in
    let there : slice_get event.rdates (place_in near k) ≡ Some r =
    value-at c.rdates-rdates.ensures.value c.at.ensures
    (within-rdates event (place_in near k) (c.next_rdates-near.ensures.within k below)) c.index-rdates-at.is in
    let given : c.given_by-given.result ≡ given_by event.start r = c.given_by-given.ensures ∙ ap (λ (v : Event). given_by v.start r) c.event.view_is in
    subst (IsTimeOf c.args.zones.zones.now) (sym (c.time_of.ensures ∙ ap time_of given))
    (given-time c.args.zones event (Listed (place_in near k)) (given_by event.start r) c.requires.event (r, there, refl))

pub loop-k-preserved : goal.loop-k-preserved
loop-k-preserved c =
    let event = c.args.event.now in
    let clocks = clocks_in c.args.zones in
    let near = c.next_rdates-near.result in
    let k = c.loop-k.k in
    let r = c.index-rdates-at.result in
    let least : SFits w64 c.lesser_again-least-in-loop-k.result = search rules in
    let below : k < count_in near = subst (λ n. k < n) c.count-k-end.ensures c.loop-k-test.true in
    let there : slice_get event.rdates (place_in near k) ≡ Some r =
    value-at c.rdates-rdates.ensures.value c.at.ensures
    (within-rdates event (place_in near k) (c.next_rdates-near.ensures.within k below)) c.index-rdates-at.is in
    let given : c.given_by-given.result ≡ given_by event.start r = c.given_by-given.ensures ∙ ap (λ (v : Event). given_by v.start r) c.event.view_is in
    let same : c.time_of.result ≡ time_of (given_by event.start r) = c.time_of.ensures ∙ ap time_of given in
    let first = c.lesser_again-least-in-loop-k.ensures.first in
    record {
      start = λ late. let was = c.loop-k.invariant.start late in omega (arith, ints, was, first);
      each = λ j rdate l stands late. elim (cases_lt j k) [
        | inl before ↦ let was = c.loop-k.invariant.each j rdate before stands late in omega (arith, ints, was, first)
        | inr on ↦
            let here : k ≡ j = omega (arith, on, l) in
            let is : r ≡ rdate = some-same r rdate (sym there ∙ (ap (λ n. slice_get event.rdates (place_in near n)) here ∙ stands)) in
            let at : c.time_of.result ≡ time_of (given_by event.start rdate) = same ∙ ap (λ (d : Rdate). time_of (given_by event.start d)) is in
            let again = subst (IsAgain clocks (to_z w64 (of_z w64 c.args.from)) c.lesser_again-least-in-loop-k.result) at
            c.lesser_again-least-in-loop-k.ensures.second in
            let now = again (omega (arith, ints, late, c.ranges.from)) in
            omega (arith, ints, now)
      ];
    }

pub returns : goal.returns
returns c =
    let least : SFits w64 c.loop-k.least = search rules in
    let over = c.loop-k-test.false in
    let end = c.count-k-end.ensures in
    record {
      start = λ late. let was = c.loop-k.invariant.start (omega (arith, ints, late, c.ranges.from)) in omega (arith, ints, was);
      each = λ place rdate stands late.
          let was = next-near c.args.zones c.args.event.now c.next_rdates-near.result c.next_rdates-near.ensures
          (λ j other l. c.loop-k.invariant.each j other (omega (arith, l, over, end))) place rdate stands (omega (arith, ints, late, c.ranges.from)) in
          omega (arith, ints, was);
    }
