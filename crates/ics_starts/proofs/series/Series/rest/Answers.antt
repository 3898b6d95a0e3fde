use Rattle.std.proofs.Common.{ap, refl}
use Rattle.ics_listing.specs.KnownStarts.{listed_left}
use Rattle.ics_listing.specs.StartOrder.{moment_cmp}
use Rattle.ics_listing.specs.Merged.{union}
use Rattle.ics_starts.specs.SeriesFeed.{series_of}
use Rattle.ics_starts.proofs.SeriesLemmas.{read}
use Rattle.ics_starts.proofs.series.Series.rest.Goals as goal

pub invariant_of-self : goal.invariant_of-self
invariant_of-self c =
    let s = read c.args.self.now c.rest_rule.new.rule c.rest_rule.ensures.rule c.rest_rule.ensures.left in record {
      first_is = s.first_is;
      own = s.own;
      taken_out = s.taken_out;
      ends_are = s.ends_are;
      dates_are = s.dates_are;
      known = s.known;
      listed_known = s.listed_known;
      ruled = s.ruled;
      own_rule = s.own_rule;
      rising = s.rising;
    }

pub returns : goal.returns
returns c =
    let s = c.args.self.now in record {
      coming = ap (λ xs. series_of s (union moment_cmp xs (listed_left s.listed))) c.rest_rule.ensures.left;
      same = record { zones = refl; event = refl; window = refl; since = refl; replaced = refl; rule = c.rest_rule.ensures.rule };
    }
