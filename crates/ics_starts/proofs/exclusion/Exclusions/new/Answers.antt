use Rattle.std.proofs.Common.{◌≡◌, ◌<◌, ◌||◌, ◌<ℤ◌, ℤ, List, length, get_or, slice_get, true, sym, ◌∙◌, ap, subst, ⊎_elim, rules, arith, w64, to_z, of_z}
use Rattle.std.proofs.lemmas.Bool.{or_left, or_right}
use Rattle.std.proofs.lemmas.Int.{ints}
use Rattle.std.proofs.lemmas.List.{length-map}
use Rattle.std.proofs.lemmas.Option.{get_or_from_slice_get}
use Rattle.ics_event.specs.declared.event.Event.{Event}
use Rattle.ics_event.specs.Event.{IsTime, Time, TimeBelow}
use Rattle.ics_listing.proofs.Cases.{below-or-last}
use Rattle.ics_period.proofs.Tests.{iff}
use Rattle.ics_starts.specs.Clocks.{clock_of}
use Rattle.ics_starts.specs.Inner.ByLocal.{exdate_locals, local_in, place_in}
use Rattle.ics_starts.specs.Exclusions.{excludes, is_excluded, is_known, takes_out}
use Rattle.ics_starts.specs.FileZones.{clocks_in}
use Rattle.ics_starts.proofs.ExclusionLemmas.{any-at, exdate-there, or-either, sorted-takes_out, taken-near}
use Rattle.ics_starts.proofs.exclusion.Exclusions.new.Goals as goal

-- there are as many locals as EXDATEs
locals-counted : (event : Event) {exdates : List Time} → exdates ≡ event.exdates → length (exdate_locals event) ≡ length exdates
locals-counted event is = length-map event.exdates local_in ∙ sym (ap (λ (xs : List Time). length xs) is)

pub offset_bounds-exdates-at : goal.offset_bounds-exdates-at
offset_bounds-exdates-at c =
    let event = c.args.event.now in
    let near = c.or_all-near.ensures (exdate_locals event) (to_z w64 (of_z w64 c.args.from)) c.deref.result.now
    (to_z w64 (of_z w64 c.args.window.now.to)) (locals-counted event c.exdates-exdates.ensures.value) c.in_ok-given.ensures in
    let there : c.at.result < length event.exdates =
    subst (λ n. n < length event.exdates) (sym c.at.ensures)
    (exdate-there event c.or_all-near.result near (subst (λ n. c.loop-k.k < n) c.count-k-end.ensures c.loop-k-test.true)) in
    let within : c.at.result < length c.exdates-exdates.result.now =
    subst (λ (xs : List Time). c.at.result < length xs) (sym c.exdates-exdates.ensures.value) there in
    search rules

pub bounds-exdates-at : goal.bounds-exdates-at
bounds-exdates-at c =
    let event = c.args.event.now in
    let near = c.or_all-near.ensures (exdate_locals event) (to_z w64 (of_z w64 c.args.from)) c.deref.result.now
    (to_z w64 (of_z w64 c.args.window.now.to)) (locals-counted event c.exdates-exdates.ensures.value) c.in_ok-given.ensures in
    let there : c.at.result < length event.exdates =
    subst (λ n. n < length event.exdates) (sym c.at.ensures)
    (exdate-there event c.or_all-near.result near (subst (λ n. c.loop-k.k < n) c.count-k-end.ensures c.loop-k-test.true)) in
    subst (λ (xs : List Time). c.at.result < length xs) (sym c.exdates-exdates.ensures.value) there

pub push_exdate-requires-clause-time : goal.push_exdate-requires-clause-time
push_exdate-requires-clause-time c =
    let event = c.args.event.now in
    let near = c.or_all-near.ensures (exdate_locals event) (to_z w64 (of_z w64 c.args.from)) c.deref.result.now
    (to_z w64 (of_z w64 c.args.window.now.to)) (locals-counted event c.exdates-exdates.ensures.value) c.in_ok-given.ensures in
    let place = c.at.result in
    let x = c.index-exdates-at.result in
    let item : x ≡ get_or event.exdates place x = c.index-exdates-at.is ∙ ap (λ (xs : List Time). get_or xs place x) c.exdates-exdates.ensures.value in
    let there : place < length event.exdates =
    subst (λ n. n < length event.exdates) (sym c.at.ensures)
    (exdate-there event c.or_all-near.result near (subst (λ n. c.loop-k.k < n) c.count-k-end.ensures c.loop-k-test.true)) in
    record {
      is_time = subst IsTime (sym item) (c.requires.event.is_event.exdates place x there);
      within = subst (TimeBelow (length c.args.zones.zones.now)) (sym item) (c.requires.event.below.exdates place x there);
    }

pub loop-k-preserved : goal.loop-k-preserved
loop-k-preserved c =
    let event = c.args.event.now in
    let near = c.or_all-near.ensures (exdate_locals event) (to_z w64 (of_z w64 c.args.from)) c.deref.result.now
    (to_z w64 (of_z w64 c.args.window.now.to)) (locals-counted event c.exdates-exdates.ensures.value) c.in_ok-given.ensures in
    let clocks = clocks_in c.args.zones in
    let places = c.or_all-near.result in
    let place = c.at.result in
    let x = c.index-exdates-at.result in
    let before = λ (t : ℤ). takes_out (clock_of clocks event.start) c.loop-k.instants.items c.loop-k.days.items t in
    let item : x ≡ get_or event.exdates place x = c.index-exdates-at.is ∙ ap (λ (xs : List Time). get_or xs place x) c.exdates-exdates.ensures.value in
    let there : place < length event.exdates =
    subst (λ n. n < length event.exdates) (sym c.at.ensures)
    (exdate-there event places near (subst (λ n. c.loop-k.k < n) c.count-k-end.ensures c.loop-k-test.true)) in
    record {
      known = c.push_exdate.ensures.known;
      only = λ t out. or-either (before t) (excludes clocks event.start x t) (is_excluded clocks event t) (c.loop-k.invariant.only t)
          (any-at (λ e. excludes clocks event.start e t) event.exdates place x there item)
          (subst (λ (v : Event). (takes_out (clock_of clocks v.start) c.loop-k.instants.items c.loop-k.days.items t
          || excludes clocks v.start x t) ≡ true) c.event.view_is (c.in_ok-push_exdate.ensures.only t (subst (λ (v : Event).
          takes_out (clock_of clocks v.start) c.push_exdate.new.instants.items c.push_exdate.new.days.items t ≡ true) (sym c.event.view_is) out)));
      seen = λ j exdate l here t known early out.
          let same =
          subst (λ (v : Event). takes_out (clock_of clocks v.start) c.push_exdate.new.instants.items c.push_exdate.new.days.items t
          ≡ (takes_out (clock_of clocks v.start) c.loop-k.instants.items c.loop-k.days.items t || excludes clocks v.start x t))
          c.event.view_is (c.in_ok-push_exdate.ensures.same t
          (ap (λ xs. is_known (to_z w64 (of_z w64 c.args.from)) xs t) c.deref-in-loop-k.ensures.value ∙ known) early) in
          same
          ∙ ⊎_elim (λ b. or_left (before t) (excludes clocks event.start x t) (c.loop-k.invariant.seen j exdate b here t known early out))
          (λ e.
          let is : x ≡ exdate =
          item ∙ get_or_from_slice_get event.exdates place exdate x
          (ap (slice_get event.exdates) (c.at.ensures ∙ ap (place_in places) (sym e)) ∙ here) in
          or_right (before t) (excludes clocks event.start x t) (ap (λ y. excludes clocks event.start y t) is ∙ out))
          (below-or-last j c.loop-k.k (omega (arith, l)));
    }

pub returns : goal.returns
returns c =
    let event = c.args.event.now in
    let clocks = clocks_in c.args.zones in
    let before = λ (t : ℤ). takes_out (clock_of clocks event.start) c.loop-k.instants.items c.loop-k.days.items t in
    let sorted = λ (t : ℤ). sorted-takes_out (clock_of clocks event.start) t c.sort_unstable.ensures.permutation c.sort_unstable-2.ensures.permutation in
    let near = c.or_all-near.ensures (exdate_locals event) (to_z w64 (of_z w64 c.args.from)) c.deref.result.now
    (to_z w64 (of_z w64 c.args.window.now.to)) (locals-counted event c.exdates-exdates.ensures.value) c.in_ok-given.ensures in
    let each : (t : ℤ) → is_known (to_z w64 (of_z w64 c.args.from)) c.args.running.items t ≡ true → t <ℤ c.args.window.now.to
    → is_excluded clocks event t ≡ true → before t ≡ true =
    λ t known early out.
    let w = c.args.window.now in
    let taken = taken-near event c.or_all-near.result near c.args.zones
    (ap (λ xs. is_known (to_z w64 (of_z w64 c.args.from)) xs t) c.deref.ensures.value ∙ known)
    (omega (arith, ints, early, w.not_early, w.ordered, w.not_late)) out in
    c.loop-k.invariant.seen taken.k taken.exdate (omega (arith, taken.within, c.count-k-end.ensures, c.loop-k-test.false)) taken.there t known early
    taken.takes in
    record {
      only = λ t out. c.loop-k.invariant.only t (sym (sorted t) ∙ out);
      same = λ t known early. sorted t ∙ iff (before t) (is_excluded clocks event t) (c.loop-k.invariant.only t) (each t known early);
    }
