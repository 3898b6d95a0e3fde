-- Which occurrences the listing of a window shows.
use Rattle.std.specs.Prelude.{◌≡◌, List, Option, Some, None}
use Rattle.std.specs.declared.cmp.Ordering.TheVariants.{Less}
use Rattle.ics_file.specs.File.{FileSaid}
use Rattle.ics_listing.specs.declared.window.Window.{Window}
use Rattle.ics_listing.specs.FileClocks.{Clock}
use Rattle.ics_listing.specs.Entry.{Entry, Rank, rank_cmp, rank_of}
use Rattle.ics_series.specs.Occurs.{Occurs}
use Rattle.ics_starts.specs.MeetsWindow.{Meets}

-- an occurrence of the folder that meets the window
abbrev pub IsListed : List FileSaid → Clock → Window → Entry → Type 0
IsListed files display w o = Occurs files display o × Meets w o

-- the same and, for a listing after a key, its key is greater
abbrev pub IsToCome : List FileSaid → Clock → Window → Option Rank → Entry → Type 0
IsToCome files display w None = IsListed files display w
IsToCome files display w (Some key) = λ o. IsListed files display w o × (rank_cmp key (rank_of o) ≡ Less)
