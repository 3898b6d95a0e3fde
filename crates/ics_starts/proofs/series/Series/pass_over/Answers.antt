use Rattle.std.proofs.Common.{◌≡◌, ◌≤ℤ◌, ℤ, Option, refl, sym, subst, arith, w64, SFits}
use Rattle.std.proofs.lemmas.Int.{int_min_is, ints}
use Rattle.ics_listing.specs.Entry.{entry_cmp}
use Rattle.ics_listing.specs.KnownStarts.{listed_left}
use Rattle.ics_listing.specs.Listing.{IsIn}
use Rattle.ics_listing.specs.Rising.{Rises}
use Rattle.ics_listing.specs.declared.start.Start.{Start}
use Rattle.ics_event.specs.declared.event.Event.{Event}
use Rattle.ics_starts.specs.Clocks.{clock_of, AreSpansOf, IsStretched}
use Rattle.ics_starts.specs.FileZones.{clocks_in}
use Rattle.ics_starts.specs.Finish.{AreLasting, AreOver}
use Rattle.ics_starts.specs.SeriesStarts.{first_of, AreLeapt}
use Rattle.ics_starts.specs.declared.rule_starts.RuleStarts.{RuleStarts}
use Rattle.ics_starts.specs.declared.series.Series.{Series}
use Rattle.ics_values.specs.declared.duration.Duration.{Duration}
use Rattle.ics_starts.proofs.EndedLemmas.{over-test, own-stretch}
use Rattle.ics_starts.proofs.PassedLemmas.{passed, IsSkipped}
use Rattle.ics_starts.proofs.SeriesLemmas.{own-rule-same}
use Rattle.ics_starts.proofs.series.Series.pass_over.Goals as goal

skipped : (s : Series) {event : Event} {by from asked to gone known : ℤ} (duration : Duration) (rule : Option RuleStarts) → event ≡ s.event.now
    → AreLasting (clocks_in s.zones) s.event.now duration → AreOver (clock_of (clocks_in s.zones) event.start) duration by asked gone → by ≤ℤ s.window.from
    → to ≤ℤ gone → to ≤ℤ known → asked ≤ℤ from → ((t : Start) → IsIn t (listed_left s.listed) → asked ≤ℤ t.moment → known ≤ℤ t.moment)
    → AreLeapt from to s.rule_starts rule → IsSkipped s rule
skipped s {event = event} {by = by} {from = from} {asked = asked} {to = to} {gone = gone} {known = known} duration rule is lasting over soon first early same
    listed passes =
    let own = subst (λ (v : Event). AreOver (clock_of (clocks_in s.zones) v.start) duration by asked gone) is over in
    passed s
    (over-test s duration lasting from to
    (λ t a b.
    let past = own t (omega (arith, ints, a, same)) (omega (arith, ints, b, first)) in
    record { begun = omega (arith, ints, past.begun, soon); ended = omega (arith, ints, past.ended, soon) })
    (λ t m l. let late = listed t m (omega (arith, ints, same, l)) in omega (arith, ints, early, late)))
    rule passes

pub over_to-over-requires-clause-shown : goal.over_to-over-requires-clause-shown
over_to-over-requires-clause-shown c =
    let s = c.args.self.now in
    subst (λ (v : Event). IsStretched (clock_of (clocks_in s.zones) v.start) c.known_stretch-shown.result) (sym c.event.view_is)
    (own-stretch s c.known_stretch-shown.result c.known_stretch-shown.ensures)

pub invariant_of-self : goal.invariant_of-self
invariant_of-self c =
    let s = c.args.self.now in
    let min = c.min in
    let from : SFits w64 c.args.from = c.ranges.from in
    let k = skipped s c.args.duration c.pass_rule_between.new.rule c.event.view_is c.requires.lasting c.over_to-over.ensures.over
    (omega (arith, ints, s.window.ordered, s.window.not_early, s.window.not_late))
    (omega (arith, ints, int_min_is, min.ensures.value, min.type_inv, c.over_to-over.type_inv))
    (omega (arith, ints, int_min_is, min.ensures.value, min.type_inv, c.from-listed.type_inv)) (omega (arith, ints)) c.from-listed.ensures
    c.pass_rule_between.ensures in
    record {
      first_is = s.first_is;
      own = s.own;
      taken_out = s.taken_out;
      ends_are = subst (λ (v : Event). AreSpansOf (clock_of (clocks_in s.zones) v.start) c.over_to-over.new.self.spans) c.event.view_is
          c.over_to-over.ensures.spans;
      dates_are = s.dates_are;
      known = k.known;
      listed_known = s.listed_known;
      ruled = k.ruled;
      own_rule = own-rule-same s.zones s.event.now s.window (first_of (clocks_in s.zones) s.window s.event.now s.since) s.rule_starts
          c.pass_rule_between.new.rule k.same s.own_rule;
      rising = subst (Rises entry_cmp) (sym k.coming) s.rising;
    }

pub returns : goal.returns
returns c =
    let s = c.args.self.now in
    let min = c.min in
    let from : SFits w64 c.args.from = c.ranges.from in
    let k = skipped s c.args.duration c.pass_rule_between.new.rule c.event.view_is c.requires.lasting c.over_to-over.ensures.over
    (omega (arith, ints, s.window.ordered, s.window.not_early, s.window.not_late))
    (omega (arith, ints, int_min_is, min.ensures.value, min.type_inv, c.over_to-over.type_inv))
    (omega (arith, ints, int_min_is, min.ensures.value, min.type_inv, c.from-listed.type_inv)) (omega (arith, ints)) c.from-listed.ensures
    c.pass_rule_between.ensures in
    record {
      coming = k.coming;
      fewer = k.fewer;
      same = record { zones = refl; event = refl; window = refl; since = refl; replaced = refl; rule = k.same };
      steps = k.steps;
    }
