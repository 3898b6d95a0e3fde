-- Whether an occurrence is shown in a window under a day.
use Rattle.std.specs.Prelude.{ℤ, ◌&&◌, Bool}
use Rattle.ics_listing.specs.declared.window.Window.{Window}
use Rattle.ics_listing.specs.FileClocks.{Clock}
use Rattle.ics_listing.specs.Entry.{Entry}
use Rattle.ics_listing.specs.WindowMeeting.{is_met}
use Rattle.ics_days.specs.ShownDays.{is_on}

-- an occurrence meets the window and has this day there
abbrev pub is_today : Clock → Window → ℤ → Entry → Bool
is_today display w day o = is_met w o && is_on display w o day
