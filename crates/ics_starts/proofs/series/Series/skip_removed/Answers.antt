use Rattle.std.proofs.Common.{refl, sym, subst}
use Rattle.ics_listing.specs.Entry.{entry_cmp}
use Rattle.ics_starts.specs.FileZones.{clocks_in}
use Rattle.ics_listing.specs.Rising.{Rises}
use Rattle.ics_starts.specs.SeriesStarts.{first_of}
use Rattle.ics_starts.proofs.PassedLemmas.{passed}
use Rattle.ics_starts.proofs.RemovedLemmas.{removed-test}
use Rattle.ics_starts.proofs.SeriesLemmas.{own-rule-same}
use Rattle.ics_starts.proofs.series.Series.skip_removed.Goals as goal

pub invariant_of-self : goal.invariant_of-self
invariant_of-self c =
    let s = c.args.self.now in
    let k = passed s (removed-test s) c.skip_rule.new.rule c.skip_rule.ensures in
    record {
      first_is = s.first_is;
      own = s.own;
      taken_out = s.taken_out;
      ends_are = s.ends_are;
      dates_are = s.dates_are;
      known = k.known;
      listed_known = s.listed_known;
      ruled = k.ruled;
      own_rule = own-rule-same s.zones s.event.now s.window (first_of (clocks_in s.zones) s.window s.event.now s.since) s.rule_starts
          c.skip_rule.new.rule k.same s.own_rule;
      rising = subst (Rises entry_cmp) (sym k.coming) s.rising;
    }

pub returns : goal.returns
returns c =
    let s = c.args.self.now in
    let k = passed s (removed-test s) c.skip_rule.new.rule c.skip_rule.ensures in
    record {
      coming = k.coming;
      fewer = k.fewer;
      same = record { zones = refl; event = refl; window = refl; since = refl; replaced = refl; rule = k.same };
      steps = k.steps;
    }
