-- Which occurrences meet a window.
use Rattle.std.specs.Prelude.{◌≡◌, ◌⊎◌, ◌<ℤ◌, ◌≤ℤ◌, IsTrue}
use Rattle.ics_listing.specs.declared.window.Window.{Window}
use Rattle.ics_event.specs.declared.event.Event.{Event}
use Rattle.ics_listing.specs.FileClocks.{Clocks}
use Rattle.ics_listing.specs.Entry.{Entry}
use Rattle.ics_starts.specs.Instances.{IsOf}

-- an occurrence meets a window
pub record Meets (w : Window) (o : Entry) : Type 0 where
  pub begun : o.start <ℤ w.to
  pub lasting : (w.from <ℤ o.finish) ⊎ ((o.finish ≡ o.start) × (w.from ≤ℤ o.start))
  pub started : IsTrue w.notstarted → w.from ≤ℤ o.start

-- an occurrence of the event that meets the window
abbrev pub IsEventMet : Clocks → Event → Window → Entry → Type 0
IsEventMet clocks event w o = IsOf clocks event o × Meets w o
