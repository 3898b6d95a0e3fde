-- Which occurrences meet a window, as a test.
use Rattle.std.specs.Prelude.{ℤ, Bool, not, ◌&&◌, ◌||◌, int_lt, int_le}
use Rattle.std.specs.Ordering.{int_eq}
use Rattle.ics_listing.specs.declared.window.Window.{Window}
use Rattle.ics_listing.specs.Entry.{Entry}

-- an occurrence that begins before the window's end is to be listed by its finish
abbrev pub is_under_way : Window → ℤ → ℤ → Bool
is_under_way w start finish =
    (int_lt w.from finish || (int_eq finish start && int_le w.from start))
    && (not w.notstarted || int_le w.from start)

-- an occurrence meets the window
abbrev pub is_met : Window → Entry → Bool
is_met w o = int_lt o.start w.to && is_under_way w o.start o.finish
