-- How many occurrences a listing holds at most. The bound counts the starts that an event can have in five UTC days in a row.
use Rattle.std.specs.Prelude.{ℕ, ◌+◌, List, sum_by}
use Rattle.ics_event.specs.declared.event.Event.{Event}
use Rattle.ics_listing.specs.FileClocks.{Clocks}
use Rattle.ics_starts.specs.RawStarts.{most_in_days}

-- a master, with the clocks by which its times are read
pub record Master : Type 0 where
  pub clocks : Clocks
  pub event : Event

-- how many occurrences the listing of these masters holds at most
unfoldable pub held_most : List Master → ℕ
held_most masters = 2 + sum_by (λ m. 2 + most_in_days m.clocks m.event) masters
