-- What the occurrences of a feed can belong to.
use Rattle.std.specs.Prelude.{ℤ, List}
use Rattle.ics_event.specs.declared.event.Event.{Event}
use Rattle.ics_listing.specs.declared.window.Window.{Window}
use Rattle.ics_listing.specs.FileClocks.{Clocks}

-- a master that recurs, with the clocks by which its times are read, in a window and from an instant on, and the instants at which others replace it
pub record Recurring : Type 0 where
  pub clocks : Clocks
  pub event : Event
  pub window : Window
  pub since : ℤ
  pub replaced : List ℤ

-- the events of a folder that start once, or such a master
pub data Source : Type 0 where
  Once : Source
  Of : Recurring → Source
