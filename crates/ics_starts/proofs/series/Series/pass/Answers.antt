use Rattle.std.proofs.Common.{◌≡◌, ◌∷◌, refl, subst}
use Rattle.ics_listing.specs.StartOrder.{moment_cmp}
use Rattle.ics_listing.specs.Listing.{IsIn}
use Rattle.ics_listing.specs.KnownStarts.{listed_left}
use Rattle.ics_starts.specs.SeriesStarts.{first_of, left, rule_left}
use Rattle.ics_starts.specs.FileZones.{clocks_in}
use Rattle.ics_listing.specs.Inner.MergedLaws.{rises-union}
use Rattle.ics_listing.proofs.BeginsLemmas.{in-cut}
use Rattle.ics_listing.proofs.FirstLemmas.{moment_total}
use Rattle.ics_starts.proofs.SeriesLemmas.{own-rule-same, rest-of, rises-listed, rises-rest, ruled-rest, series-near}
use Rattle.ics_starts.proofs.series.Series.pass.Goals as goal

pub invariant_of-self : goal.invariant_of-self
invariant_of-self c =
    let s = c.args.self.now in
    let start = c.args.start.now in
    let taken : left s.rule_starts s.listed ≡ start ∷ left c.pass_rule.new.rule c.pass.new.self =
    rw (c.pass_rule.ensures.left, c.pass.ensures) c.requires.first in
    record {
      first_is = s.first_is;
      own = s.own;
      taken_out = s.taken_out;
      ends_are = s.ends_are;
      dates_are = s.dates_are;
      known = rest-of taken s.known;
      listed_known = λ t m. s.listed_known t (in-cut moment_cmp moment_total start t (listed_left s.listed) (subst (IsIn t) c.pass.ensures m));
      ruled = ruled-rest (clocks_in s.zones) s.window s.event.now s.since s.replaced s.rule_starts c.pass_rule.new.rule
          c.pass_rule.ensures.rule c.pass_rule.ensures.left (record {
            is = taken;
            rises = rises-union moment_cmp moment_total (rule_left s.rule_starts) (listed_left s.listed) (rises-listed s.listed);
            timed = λ t m. (s.known t m).moment;
          })
          s.ruled;
      own_rule = own-rule-same s.zones s.event.now s.window (first_of (clocks_in s.zones) s.window s.event.now s.since) s.rule_starts
          c.pass_rule.new.rule c.pass_rule.ensures.rule s.own_rule;
      rising = rises-rest (clocks_in s.zones) s.window s.event.now s.since s.replaced taken s.rising;
    }

pub returns : goal.returns
returns c =
    let s = c.args.self.now in record {
      taken = rw (c.pass_rule.ensures.left, c.pass.ensures) c.requires.first;
      same = record { zones = refl; event = refl; window = refl; since = refl; replaced = refl; rule = c.pass_rule.ensures.rule };
      near = λ o m. rw c.pass_rule.ensures.asked (series-near s o m);
    }
