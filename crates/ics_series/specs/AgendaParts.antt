-- What contracts see of a part of an agenda.
use Rattle.std.specs.Prelude.{◌≡◌, ◌⊎◌, ◌≤ℤ◌, true, List, [], ◌∷◌, map}
use Rattle.std.specs.Vec.Iter.{into_iter_items}
use Rattle.ics_series.specs.declared.part.Part.{Part}
use Rattle.ics_series.specs.declared.part.Part.TheVariants.{Singles, Series}
use Rattle.ics_listing.specs.Entry.{Entry}
use Rattle.ics_listing.specs.Listing.{IsIn}
use Rattle.ics_series.specs.Sources.{recurring}
use Rattle.ics_continued.specs.Continued.{continued_left, continued_near, continued_near-prop, continued_sources}
use Rattle.ics_starts.specs.SingleEvents.{is_single, single_entry}
use Rattle.ics_series.specs.Singles.{single-prop}
use Rattle.ics_series.specs.declared.singles.Singles as single
use Rattle.ics_listing.specs.FeedSources.{Recurring, Source}
use Rattle.ics_listing.specs.FeedSources.Source.{Once}

-- what is still to come of a part
abbrev pub part_coming : Part → List Entry
part_coming (Singles s) = map single_entry (into_iter_items s.rest)
part_coming (Series s) = continued_left s.series.value

-- what its occurrences belong to
abbrev pub part_sources : Part → List Source
part_sources (Singles s) = Once ∷ []
part_sources (Series s) = continued_sources s.series.value

-- an occurrence belongs to that, and no rule has been read further than it needs
abbrev pub part_near : Part → Entry → Type 0
part_near (Singles s) o = is_single o.event ≡ true
part_near (Series s) o = continued_near s.series.value o

pub part_near-prop : (p : Part) (o : Entry) → IsProp (part_near p o)
part_near-prop (Singles s) o = single-prop o
part_near-prop (Series s) o = continued_near-prop s.series.value o

-- what is to come of a part begins at the instant from which its master is listed, or later
abbrev pub ComesSince : Part → Type 0
ComesSince p = (m : Recurring) (o : Entry) → IsIn m (recurring (part_sources p)) → IsIn o (part_coming p) → m.since ≤ℤ o.start

-- the part of the events that start once, or none where nothing of them is to come
abbrev pub IsFirstPart : single.Singles → List Part → Type 0
IsFirstPart s parts = (parts ≡ Singles s ∷ []) ⊎ ((parts ≡ []) × (part_coming (Singles s) ≡ []))
