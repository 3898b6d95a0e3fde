-- What contracts see of a series.
use Rattle.std.specs.Prelude.{◌≡◌, ℤ, List, [], ◌∷◌, Option, Some, None}
use Rattle.std.specs.Coded.{×_prop, Unit-prop, Π_prop}
use Rattle.std.proofs.Props.{props}
use Rattle.ics_event.specs.declared.event.Event.{Event}
use Rattle.ics_listing.specs.declared.window.Window.{Window}
use Rattle.ics_listing.specs.FileClocks.{Clocks}
use Rattle.ics_listing.specs.FeedSources.{Source}
use Rattle.ics_listing.specs.FeedSources.Source.{Of}
use Rattle.ics_starts.specs.declared.series.Series.{Series}
use Rattle.ics_listing.specs.declared.start.Start.{Start}
use Rattle.ics_listing.specs.Entry.{Entry}
use Rattle.ics_starts.specs.SeriesStarts.{given_of, left, rule_asked, HasSameRule, IsAskedNear}
use Rattle.ics_starts.specs.FileZones.{clocks_in}
use Rattle.ics_starts.specs.SeriesLaws.{event-set}

-- the starts still to come
abbrev pub series_left : Series → List Start
series_left s = left s.rule_starts s.listed

-- the occurrences that these starts give
abbrev pub series_of : Series → List Start → List Entry
series_of s starts = given_of (clocks_in s.zones) s.window s.event.now s.since s.replaced starts

-- its occurrences are of its event, in its window, from an instant on, but for those that others replace
abbrev pub source_of : Clocks → Event → Window → ℤ → List ℤ → List Source
source_of clocks event w since replaced = Of (record { clocks = clocks; event = event; window = w; since = since; replaced = replaced }) ∷ []

abbrev pub series_sources : Series → List Source
series_sources s = source_of (clocks_in s.zones) s.event.now s.window s.since s.replaced

-- An occurrence is of its event. If it begins at the instant of DTSTART's local or of one that the rule keeps, the rule has been read no
-- further than three days past it.
abbrev pub series_near : Series → Entry → Type 0
series_near s o = (o.event ≡ s.event.now) × IsAskedNear (clocks_in s.zones) s.event.now (rule_asked s.rule_starts) o.start

pub asked-prop : (clocks : Clocks) (event : Event) (asked : Option ℤ) (t : ℤ) → IsProp (IsAskedNear clocks event asked t)
asked-prop clocks event None t = Unit-prop
asked-prop clocks event (Some day) t = Π_prop λ local. Π_prop λ k. hlevel props

pub series_near-prop : (s : Series) (o : Entry) → IsProp (series_near s o)
series_near-prop s o = ×_prop (event-set o.event s.event.now) (asked-prop (clocks_in s.zones) s.event.now (rule_asked s.rule_starts) o.start)

-- the series is that of the same event
pub record IsSameSeries (old new : Series) : Type 0 where
  pub zones : new.zones ≡ old.zones
  pub event : new.event ≡ old.event
  pub window : new.window ≡ old.window
  pub since : new.since ≡ old.since
  pub replaced : new.replaced ≡ old.replaced
  pub rule : HasSameRule old.rule_starts new.rule_starts
