-- The days under which an occurrence is shown (the program's own form).
use Rattle.std.specs.Prelude.{ℤ, pos, ◌-ℤ◌, ◌&&◌, Bool, int_le, if◌then◌else◌}
use Rattle.std.specs.Int.{int_max, int_min}
use Rattle.std.specs.Ordering.{int_eq}
use Rattle.ics_fields.specs.Locals.{day_of_local}
use Rattle.ics_listing.specs.declared.window.Window.{Window}
use Rattle.ics_listing.specs.FileClocks.{Clock}
use Rattle.ics_starts.specs.Clocks.{local_at}
use Rattle.ics_listing.specs.Entry.{Entry}

-- the date that a clock shows
abbrev pub date_at : Clock → ℤ → ℤ
date_at clock t = day_of_local (local_at clock t)

-- the first day of an occurrence in a window: that of the later of its start and the window's
abbrev pub first_day : Clock → Window → Entry → ℤ
first_day clock w o = date_at clock (int_max o.start w.from)

-- the day of its last second before both its finish and the window's end
abbrev pub end_day : Clock → Window → Entry → ℤ
end_day clock w o = date_at clock (int_min o.finish w.to -ℤ pos 1)

-- The last of its days: that day, where it is not before the first. One of no length has the first alone.
abbrev pub last_day : Clock → Window → Entry → ℤ
last_day clock w o = if int_eq o.finish o.start then first_day clock w o else int_max (first_day clock w o) (end_day clock w o)

-- a day is one of an occurrence's in a window
abbrev pub is_on : Clock → Window → Entry → ℤ → Bool
is_on clock w o day = int_le (first_day clock w o) day && int_le day (last_day clock w o)
