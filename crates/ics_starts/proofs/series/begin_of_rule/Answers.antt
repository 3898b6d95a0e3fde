use Rattle.std.proofs.Common.{◌≡◌, ◌+ℤ◌, ◌-ℤ◌, ◌≤ℤ◌, ◌<ℤ◌, ◌≤◌, ◌<◌, ℕ, ℤ, pos, w64, to_z, of_z, sym, ◌∙◌, ap, subst, arith, SFits}
use Rattle.std.specs.Int.{int_max, int_min}
use Rattle.std.proofs.lemmas.Int.{int_max_is, int_min_is, ints}
use Rattle.ics_event.specs.declared.event.Event.{Event}
use Rattle.ics_fields.specs.declared.local.Local.{Local}
use Rattle.ics_fields.specs.Locals.{local_seconds, whole_days}
use Rattle.ics_listing.specs.declared.window.Window.{Window}
use Rattle.ics_starts.specs.Clocks.{clock_of, IsBounded}
use Rattle.ics_starts.specs.Leeway.{late_within, seconds_back, seconds_off}
use Rattle.ics_starts.specs.SeriesStarts.{first_asked, AreTooEarly}
use Rattle.ics_listing.specs.StartTimes.{local_of}
use Rattle.ics_starts.specs.FileZones.{clocks_in, IsTimeOf}
use Rattle.ics_listing.proofs.Cases.{moment-back}
use Rattle.ics_starts.proofs.InstantLemmas.{bounds-apart}
use Rattle.ics_starts.proofs.SettledLemmas.{early-local}
use Rattle.ics_starts.proofs.SoughtLemmas.{late-event}
use Rattle.ics_listing.proofs.StartOrderLemmas.{calendar-day, number-seconds, own-day}
use Rattle.ics_starts.proofs.series.begin_of_rule.Goals as goal

to-later : (w : Window) → to_z w64 (of_z w64 (to_z w64 (of_z w64 w.to) +ℤ whole_days 14)) ≡ w.to +ℤ whole_days 14
to-later w = omega (arith, ints, w.not_early, w.ordered, w.not_late)

-- where reading begins
module _ (own first late least : ℤ) where
  late-by : (off : ℤ) {most from : ℤ} → late ≤ℤ most → (pos 0 -ℤ off) ≤ℤ least → int_max own (first -ℤ ((late -ℤ least) +ℤ whole_days 1)) ≤ℤ from →
      int_max own (first -ℤ ((off +ℤ most) +ℤ whole_days 1)) ≤ℤ from
  late-by off {most = most} late-most l h =
      let more = int_max_is own (first -ℤ ((late -ℤ least) +ℤ whole_days 1)) in
      omega (arith, ints, late-most, l, h, more, int_max_is own (first -ℤ ((off +ℤ most) +ℤ whole_days 1)))

  low-by : {from moment : ℤ} {a b n : ℕ} → from ≤ℤ int_max own (first -ℤ (late -ℤ least)) → pos a ≡ own +ℤ pos 62_167_219_200
      → pos b ≡ from +ℤ pos 62_167_219_200 → a ≤ n → n < b → moment ≤ℤ (pos n -ℤ pos 62_167_219_200 -ℤ least) → moment <ℤ (first -ℤ late)
  low-by low at there on before near = omega (arith, ints, low, at, there, on, before, near, int_max_is own (first -ℤ (late -ℤ least)))

pub bounds-bounds-requires : goal.bounds-bounds-requires
bounds-bounds-requires c = subst (λ (v : Event). IsTimeOf c.args.zones.zones.now v.start) (sym c.event.view_is) c.requires.event.start

pub seconds_back-requires : goal.seconds_back-requires
seconds_back-requires c =
    let b = c.bounds-bounds.result in
    let bounded = c.bounds-bounds.ensures.bounded in
    let apart = bounds-apart b bounded in
    record {
      least = (omega (arith, ints, bounded.least_short), omega (arith, ints, bounded.least_short));
      most = (omega (arith, ints, bounded.most_short), omega (arith, ints, bounded.most_short));
      order = omega (arith, ints, apart.0);
    }

pub first_nearby-requires-clause-first : goal.first_nearby-requires-clause-first
first_nearby-requires-clause-first c =
    let start = c.args.event.now.start in
    let local : c.local_of.result ≡ local_of c.args.event.now.start.stamp =
    c.local_of.ensures ∙ ap (λ (v : Event). local_of v.start.stamp) c.event.view_is in
    rw local (calendar-day (local_of c.args.event.now.start.stamp).day (own-day start c.requires.event.start.is_time))

pub first_nearby-requires-clause-late : goal.first_nearby-requires-clause-late
first_nearby-requires-clause-late c =
    let max = c.max in
    let e = c.earliest-earliest in
    omega (arith, ints, int_max_is, max.ensures.value, max.type_inv, e.type_inv, e.ensures.late)

pub first_nearby-requires-clause-early : goal.first_nearby-requires-clause-early
first_nearby-requires-clause-early c =
    let max = c.max in
    let min = c.min in
    let e = c.earliest-earliest in
    let w = c.args.window.now in
    omega (arith, ints, int_max_is, int_min_is, max.ensures.value, min.ensures.value, max.type_inv, min.type_inv, e.type_inv, e.ensures.early, w.not_late)

pub returns : goal.returns
returns c =
    let event = c.args.event.now in
    let clocks = clocks_in c.args.zones in
    let local : c.local_of.result ≡ local_of event.start.stamp = c.local_of.ensures ∙ ap (λ (v : Event). local_of v.start.stamp) c.event.view_is in
    let fits : SFits w64 c.args.since = c.ranges.since in
    let earliest-fits = moment-back c.earliest-earliest.result c.earliest-earliest.type_inv in
    let min-fits = moment-back c.min.result c.min.type_inv in
    let max-fits = moment-back c.max.result c.max.type_inv in
    let since-fits : to_z w64 (of_z w64 c.args.since) ≡ c.args.since = omega (arith, ints) in
    let min : to_z w64 (of_z w64 c.min.result) ≡ int_min c.args.since (c.args.window.now.to +ℤ whole_days 14) =
    min-fits ∙ (c.min.ensures.value ∙ (λ i. int_min (since-fits i) (to-later c.args.window.now i))) in
    let first : to_z w64 (of_z w64 c.max.result) ≡ first_asked clocks c.args.window.now event c.args.since c.args.listed.now =
    max-fits ∙ (c.max.ensures.value ∙ (λ i. int_max ((earliest-fits ∙ c.earliest-earliest.ensures.value) i) (min i))) in
    let b = c.bounds-bounds.result in
    let bounded = subst (λ (v : Event). IsBounded (clock_of (clocks_in c.args.zones) v.start) c.bounds-bounds.result) c.event.view_is
    c.bounds-bounds.ensures.bounded in
    let off = subst (λ (v : Event). (pos 0 -ℤ seconds_off v.start.stamp) ≤ℤ c.bounds-bounds.result.least) c.event.view_is c.bounds-bounds.ensures.least in
    let more = c.seconds_back.ensures in
    let back : to_z w64 (of_z w64 c.seconds_back.result) ≡ late_within b event -ℤ b.least = omega (arith, ints, more.value, more.least, more.most) in
    let ends = late-event c.args.zones c.args.window.now event b bounded in
    let at = ap (λ (l : Local). local_seconds l) local in
    let begun = local_of event.start.stamp in
    let own = number-seconds begun (calendar-day begun.day (own-day event.start c.requires.event.start.is_time)) in
    let from = c.first_nearby in
    let there = number-seconds from.result from.ensures.day in
    let from-late = subst (λ x. x ≤ℤ local_seconds c.first_nearby.result) (λ i. int_max (at i) (first i -ℤ (back i +ℤ whole_days 1))) from.ensures.late in
    let from-low = subst (λ x. local_seconds c.first_nearby.result ≤ℤ x) (λ i. int_max (at i) (first i -ℤ back i)) from.ensures.low in
    let late : int_max (local_seconds (local_of event.start.stamp))
    (first_asked clocks c.args.window.now event c.args.since c.args.listed.now -ℤ (seconds_back event +ℤ whole_days 1)) ≤ℤ local_seconds from.result =
    late-by (local_seconds begun) (first_asked clocks c.args.window.now event c.args.since c.args.listed.now) (late_within b event) b.least
    (seconds_off event.start.stamp) ends.1 off from-late in
    let low : AreTooEarly clocks event from.result (first_asked clocks c.args.window.now event c.args.since c.args.listed.now -ℤ late_within b event) =
    λ n on before.
    low-by (local_seconds begun) (first_asked clocks c.args.window.now event c.args.since c.args.listed.now) (late_within b event) b.least from-low own there
    on before (early-local c.args.zones event b bounded n) in
    record { day = c.first_nearby.ensures.day; bounds = b; bounded = bounded; late = late; low = low }
