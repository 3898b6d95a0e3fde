-- What contracts see of the occurrences of an event from search to search.
use Rattle.std.specs.Prelude.{◌≡◌, ◌≤ℤ◌, ℤ, List, ◌++◌}
use Rattle.std.specs.Coded.{×_prop, Π_prop}
use Rattle.ics_continued.specs.Lasting.{known_left}
use Rattle.ics_continued.specs.declared.continued.Continued.{Continued}
use Rattle.ics_listing.specs.Entry.{Entry}
use Rattle.ics_listing.specs.FeedSources.{Source}
use Rattle.ics_starts.specs.FileZones.{clocks_in}
use Rattle.ics_starts.specs.SeriesFeed.{asked-prop, series_left, series_of, series_sources, IsSameSeries}
use Rattle.ics_starts.specs.SeriesLaws.{event-set}
use Rattle.ics_starts.specs.SeriesStarts.{rule_asked, IsAskedNear, IsSeriesMet}

-- what is still to come: what was known before the search, and what the series finds
abbrev pub continued_left : Continued → List Entry
continued_left c = known_left c.series.event.now c.next c.known.items ++ series_of c.series (series_left c.series)

-- its occurrences are of the event of its series, in its window and from an instant on
abbrev pub continued_sources : Continued → List Source
continued_sources c = series_sources c.series

-- an occurrence of its event that meets its window and begins at the instant that is asked for or later, but at none that others replace
abbrev pub IsContinuedMet : Continued → Entry → Type 0
IsContinuedMet c = IsSeriesMet (clocks_in c.series.zones) c.series.event.now c.series.window c.since c.series.replaced

-- An occurrence is of its event. If it is one that the series finds, the rule has been read no further than it needs.
abbrev pub continued_near : Continued → Entry → Type 0
continued_near c o =
    (o.event ≡ c.series.event.now)
    × (c.series.since ≤ℤ o.start → IsAskedNear (clocks_in c.series.zones) c.series.event.now (rule_asked c.series.rule_starts) o.start)

pub continued_near-prop : (c : Continued) (o : Entry) → IsProp (continued_near c o)
continued_near-prop c o =
    ×_prop (event-set o.event c.series.event.now)
    (Π_prop λ from. asked-prop (clocks_in c.series.zones) c.series.event.now (rule_asked c.series.rule_starts) o.start)

-- it is of the same event, in the same window and from the same instant on
pub record IsSameContinued (old new : Continued) : Type 0 where
  pub series : IsSameSeries old.series new.series
  pub since : new.since ≡ old.since
