use Rattle.ics_fields.specs.Locals.{whole_days}
use Rattle.std.proofs.Common.{◌≡◌, ◌-ℤ◌, pos, true, false, ◌<◌, ◌<ℤ◌, ◌≤ℤ◌, ◌||◌, ℤ, Some, inl, inr, ⊎_elim, refl, sym, ◌∙◌, ap, subst}
use Rattle.std.proofs.Common.{arith, slice_get, int_eq, to_z, of_z, w64}
use Rattle.std.proofs.lemmas.Bool.{cases_lt, or_cases, or_left, or_right}
use Rattle.std.proofs.lemmas.Int.{ints}
use Rattle.std.proofs.lemmas.List.Sorted.{list_any-IsPermutation}
use Rattle.std.proofs.lemmas.Map.Keys.{any_passes_from_place}
use Rattle.ics_event.specs.declared.event.Event.{Event}
use Rattle.ics_event.specs.Event.{IsRdate, Rdate}
use Rattle.ics_listing.specs.declared.start.StartSource.TheVariants.{Listed}
use Rattle.ics_listing.proofs.Cases.{some-same}
use Rattle.ics_listing.proofs.StartOrderLemmas.{all-at}
use Rattle.ics_listing.specs.StartTimes.{time_of}
use Rattle.ics_period.proofs.Tests.{iff}
use Rattle.ics_starts.specs.Exclusions.{is_among}
use Rattle.ics_starts.specs.FileZones.{clocks_in, IsTimeOf}
use Rattle.ics_starts.specs.Found.{begins_at, is_running}
use Rattle.ics_starts.specs.Inner.ByLocal.{count_in, place_in, IsEndedBy}
use Rattle.ics_starts.specs.Starts.{given_by}
use Rattle.ics_starts.proofs.NearLemmas.{ended-over, running-near, span-near, value-at}
use Rattle.ics_starts.proofs.StartSourceLemmas.{given-value}
use Rattle.ics_starts.proofs.ZoneLemmas.{given-time}
use Rattle.ics_starts.proofs.listed.running.Goals as goal

pub push_running-requires-clause-value : goal.push_running-requires-clause-value
push_running-requires-clause-value c =
    let event = c.args.event.now in
    let near = c.near_spans-near.result in
    let k = c.loop-k.k in
    let r = c.index-rdates-place.result in
    let below : k < count_in near = subst (λ n. k < n) c.count-k-end.ensures c.loop-k-test.true in
    let there : slice_get event.rdates (place_in near k) ≡ Some r =
    value-at c.rdates-rdates.ensures.value c.at-place.ensures (c.near_spans-near.ensures.within k below) c.index-rdates-place.is in
    let given : c.given_by.result ≡ given_by event.start r = c.given_by.ensures ∙ ap (λ (v : Event). given_by v.start r) c.event.view_is in
    subst IsRdate (sym given)
    (given-value event.start event.start.stamp r c.requires.event.is_event.start
    (all-at IsRdate event.rdates (place_in near k) r c.requires.event.is_event.rdates there))

pub push_running-requires-clause-time : goal.push_running-requires-clause-time
push_running-requires-clause-time c =
    let event = c.args.event.now in
    let near = c.near_spans-near.result in
    let k = c.loop-k.k in
    let r = c.index-rdates-place.result in
    let below : k < count_in near = subst (λ n. k < n) c.count-k-end.ensures c.loop-k-test.true in
    let there : slice_get event.rdates (place_in near k) ≡ Some r =
    value-at c.rdates-rdates.ensures.value c.at-place.ensures (c.near_spans-near.ensures.within k below) c.index-rdates-place.is in
    let given : c.given_by.result ≡ given_by event.start r = c.given_by.ensures ∙ ap (λ (v : Event). given_by v.start r) c.event.view_is in
    subst (λ v. IsTimeOf c.args.zones.zones.now (time_of v)) (sym given)
    (given-time c.args.zones event (Listed (place_in near k)) (given_by event.start r) c.requires.event (r, there, refl))

pub loop-k-preserved-then-has_ended : goal.loop-k-preserved-then-has_ended
loop-k-preserved-then-has_ended c =
    let event = c.args.event.now in
    let clocks = clocks_in c.args.zones in
    let w = c.args.window.now in
    let near = c.near_spans-near.result in
    let k = c.loop-k.k in
    let by : to_z w64 (of_z w64 (to_z w64 (of_z w64 w.from) -ℤ pos 518_400)) ≡ w.from -ℤ whole_days 6 =
    omega (arith, ints, w.not_early, w.ordered, w.not_late) in
    record {
      known = c.loop-k.invariant.known;
      only = c.loop-k.invariant.only;
      all = λ t j rdate on early l stands e.
          elim (cases_lt j k) [
            | inl behind ↦ c.loop-k.invariant.all t j rdate on early behind stands e
            | inr after ↦
                let here : k ≡ j = omega (arith, after, l) in
                let there : slice_get event.rdates c.at-place.result ≡ Some rdate =
                ap (slice_get event.rdates) c.at-place.ensures ∙ (ap (λ n. slice_get event.rdates (place_in near n)) here ∙ stands) in
                let ended = subst (λ t. IsEndedBy t (given_by event.start rdate)) by
                (c.has_ended.ensures event rdate c.requires.dates c.if-has_ended.true there) in
                let f : false ≡ true = sym (ended-over clocks w t (given_by event.start rdate) ended) ∙ e in
                absurd cc
          ];
    }

pub loop-k-preserved : goal.loop-k-preserved
loop-k-preserved c =
    let event = c.args.event.now in
    let clocks = clocks_in c.args.zones in
    let w = c.args.window.now in
    let near = c.near_spans-near.result in
    let k = c.loop-k.k in
    let r = c.index-rdates-place.result in
    let below : k < count_in near = subst (λ n. k < n) c.count-k-end.ensures c.loop-k-test.true in
    let there : slice_get event.rdates (place_in near k) ≡ Some r =
    value-at c.rdates-rdates.ensures.value c.at-place.ensures (c.near_spans-near.ensures.within k below) c.index-rdates-place.is in
    let given : c.given_by.result ≡ given_by event.start r = c.given_by.ensures ∙ ap (λ (v : Event). given_by v.start r) c.event.view_is in
    let before = c.loop-k.running.items in
    let more : (t : ℤ) → c.args.since ≤ℤ t → t <ℤ c.args.from → is_among c.push_running.new.running.items t
    ≡ (is_among before t || begins_at clocks w t (given_by event.start r)) =
    λ t on early. c.in_ok-push_running.ensures.running t (omega (arith, ints, on, c.ranges.since)) (omega (arith, ints, early, c.ranges.from))
    ∙ ap (λ v. is_among before t || begins_at clocks w t v) given in
    record {
      known = c.push_running.ensures.known;
      only = λ t on early e.
          let late : c.args.since ≤ℤ t = omega (arith, ints, on, c.ranges.since) in
          let less : t <ℤ c.args.from = omega (arith, ints, early, c.ranges.from) in
          ⊎_elim (λ a. c.loop-k.invariant.only t on early a)
          (λ b. any_passes_from_place (λ x. begins_at clocks w t (given_by event.start x)) event.rdates (place_in near k) r there b)
          (or_cases (is_among before t) (begins_at clocks w t (given_by event.start r)) (sym (more t late less) ∙ e));
      all = λ t j rdate on early l stands e.
          let late : c.args.since ≤ℤ t = omega (arith, ints, on, c.ranges.since) in
          let less : t <ℤ c.args.from = omega (arith, ints, early, c.ranges.from) in
          elim (cases_lt j k) [
            | inl behind ↦
                more t late less
                ∙ or_left (is_among before t) (begins_at clocks w t (given_by event.start r)) (c.loop-k.invariant.all t j rdate on early behind stands e)
            | inr on ↦
                let here : k ≡ j = omega (arith, on, l) in
                let same : r ≡ rdate = some-same r rdate (sym there ∙ (ap (λ n. slice_get event.rdates (place_in near n)) here ∙ stands)) in
                more t late less
                ∙ or_right (is_among before t) (begins_at clocks w t (given_by event.start r))
                (ap (λ (x : Rdate). begins_at clocks w t (given_by event.start x)) same ∙ e)
          ];
    }

pub returns-clause-are : goal.returns-clause-are
returns-clause-are c =
    let event = c.args.event.now in
    let w = c.args.window.now in
    λ t late early.
    let on : to_z w64 (of_z w64 c.args.since) ≤ℤ t = omega (arith, ints, late, c.ranges.since) in
    let less : t <ℤ c.args.from = omega (arith, ints, early, c.ranges.from) in
    sym (list_any-IsPermutation (λ x. int_eq x t) c.loop-k.running.items c.sort_unstable.new.self.items c.sort_unstable.ensures.permutation)
    ∙ iff (is_among c.loop-k.running.items t) (is_running (clocks_in c.args.zones) w event t)
    (λ e. c.loop-k.invariant.only t on (omega (arith, ints, early, c.ranges.from)) e)
    (λ e.
    let there = running-near (clocks_in c.args.zones) w t c.near_spans-near.ensures
    (span-near c.args.zones w (omega (arith, ints, w.ordered, w.not_early, w.not_late), omega (arith, ints, c.ranges.from, c.requires.soon, w.not_late)) less)
    e in
    let over = c.loop-k-test.false in
    let end = c.count-k-end.ensures in
    c.loop-k.invariant.all t there.k there.rdate on (omega (arith, ints, early, c.ranges.from)) (omega (arith, there.within, over, end)) there.stands
    there.begins)
