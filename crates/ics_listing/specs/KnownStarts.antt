-- Starts that are known from the beginning.
use Rattle.std.specs.Prelude.{List, drop}
use Rattle.ics_listing.specs.declared.listed_starts.ListedStarts.{ListedStarts}
use Rattle.ics_listing.specs.declared.start.Start.{Start}

-- the known starts that were not passed yet
abbrev pub listed_left : ListedStarts → List Start
listed_left s = drop s.gone s.starts.items
