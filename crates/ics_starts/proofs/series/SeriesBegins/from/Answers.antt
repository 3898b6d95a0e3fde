use Rattle.std.proofs.Common.{⊎_elim, arith}
use Rattle.std.proofs.lemmas.Int.{int_max_is, int_min_is, ints}
use Rattle.ics_starts.specs.FileZones.{clocks_in}
use Rattle.ics_listing.specs.StartOrder.{moment_cmp}
use Rattle.ics_starts.specs.SeriesFeed.{series_left}
use Rattle.ics_listing.specs.KnownStarts.{listed_left}
use Rattle.ics_starts.specs.SeriesStarts.{rule_left}
use Rattle.ics_listing.proofs.FirstLemmas.{moment_total}
use Rattle.ics_starts.proofs.SeriesLemmas.{given-start, rises-listed, series-near}
use Rattle.ics_listing.proofs.UnionLemmas.{union-in}
use Rattle.ics_starts.proofs.series.SeriesBegins.from.Goals as goal

pub returns-clause-from : goal.returns-clause-from
returns-clause-from c = λ o m.
    let s = c.args.self.now in
    let at = given-start (clocks_in s.zones) s.window s.event.now s.since s.replaced (series_left s)
    (λ t n. (s.known t n).moment) o m in
    ⊎_elim
    (λ n. omega (arith, ints, int_max_is, int_min_is, c.max.ensures, c.min-starts.ensures, c.rule_from.ensures at.1.0 n, at.0, at.1.2))
    (λ n. omega (arith, ints, int_max_is, int_min_is, c.max.ensures, c.min-starts.ensures, c.listed_from.ensures at.1.0 n.1, at.0, at.1.2))
    (union-in moment_cmp moment_total at.1.0 (rule_left s.rule_starts) (listed_left s.listed) (rises-listed s.listed) at.1.1)

pub returns-clause-near : goal.returns-clause-near
returns-clause-near c = series-near c.args.self.now
