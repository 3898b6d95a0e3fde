use Rattle.std.proofs.Common.{◌≤ℤ◌, ℤ, Option, refl, sym, subst, arith}
use Rattle.std.proofs.lemmas.Int.{int_min_is, ints}
use Rattle.ics_listing.specs.Entry.{entry_cmp}
use Rattle.ics_listing.specs.KnownStarts.{listed_left}
use Rattle.ics_listing.specs.Listing.{IsIn}
use Rattle.ics_listing.specs.Rising.{Rises}
use Rattle.ics_listing.specs.declared.start.Start.{Start}
use Rattle.ics_listing.proofs.Cases.{moment-back}
use Rattle.ics_starts.specs.FileZones.{clocks_in}
use Rattle.ics_starts.specs.SeriesStarts.{first_of, AreLeapt, IsFirstGiven}
use Rattle.ics_starts.specs.declared.rule_starts.RuleStarts.{RuleStarts}
use Rattle.ics_starts.specs.declared.series.Series.{Series}
use Rattle.ics_starts.proofs.EndedLemmas.{given-sooner, leapt-test}
use Rattle.ics_starts.proofs.PassedLemmas.{passed, IsSkipped}
use Rattle.ics_starts.proofs.SeriesLemmas.{own-rule-same}
use Rattle.ics_starts.proofs.series.Series.skip_shown.Goals as goal

leapt : (s : Series) {from asked to known : ℤ} (rule : Option RuleStarts) → IsFirstGiven (clocks_in s.zones) s.window s.event.now s.since to
    → to ≤ℤ known → asked ≤ℤ from → ((t : Start) → IsIn t (listed_left s.listed) → asked ≤ℤ t.moment → known ≤ℤ t.moment)
    → AreLeapt from to s.rule_starts rule → IsSkipped s rule
leapt s {from = from} {asked = asked} {to = to} {known = known} rule first early same listed passes =
    passed s
    (leapt-test s from to first (λ t m l. let late = listed t m (omega (arith, ints, same, l)) in omega (arith, ints, early, late)))
    rule passes

pub invariant_of-self : goal.invariant_of-self
invariant_of-self c =
    let s = c.args.self.now in
    let min = c.min in
    let k = leapt s c.pass_rule_between.new.rule
    (given-sooner s.zones s.window s.event.now s.since (omega (arith, ints, int_min_is, min.ensures.value, min.type_inv)) c.first_given-first.ensures)
    (omega (arith, ints, int_min_is, min.ensures.value, min.type_inv)) (omega (arith, ints, c.next_shown-from.type_inv)) c.from-listed.ensures
    c.pass_rule_between.ensures in
    record {
      first_is = subst (IsFirstGiven (clocks_in s.zones) s.window s.event.now s.since)
          (sym (moment-back c.first_given-first.result c.first_given-first.type_inv)) c.first_given-first.ensures;
      own = s.own;
      taken_out = s.taken_out;
      ends_are = s.ends_are;
      dates_are = s.dates_are;
      known = k.known;
      listed_known = s.listed_known;
      ruled = k.ruled;
      own_rule = own-rule-same s.zones s.event.now s.window (first_of (clocks_in s.zones) s.window s.event.now s.since) s.rule_starts
          c.pass_rule_between.new.rule k.same s.own_rule;
      rising = subst (Rises entry_cmp) (sym k.coming) s.rising;
    }

pub returns : goal.returns
returns c =
    let s = c.args.self.now in
    let min = c.min in
    let k = leapt s c.pass_rule_between.new.rule
    (given-sooner s.zones s.window s.event.now s.since (omega (arith, ints, int_min_is, min.ensures.value, min.type_inv)) c.first_given-first.ensures)
    (omega (arith, ints, int_min_is, min.ensures.value, min.type_inv)) (omega (arith, ints, c.next_shown-from.type_inv)) c.from-listed.ensures
    c.pass_rule_between.ensures in
    record {
      coming = k.coming;
      fewer = k.fewer;
      same = record { zones = refl; event = refl; window = refl; since = refl; replaced = refl; rule = k.same };
      steps = k.steps;
    }
