-- The starts of an event, and the times that they are given by.
use Rattle.std.specs.Prelude.{◌≤◌, ◌≤ℤ◌, ⊤, None}
use Rattle.ics_fields.specs.Locals.{local_at, local_seconds}
use Rattle.ics_fields.specs.declared.local.Local.{Local}
use Rattle.ics_values.specs.declared.stamp.Stamp.{Stamp}
use Rattle.ics_values.specs.declared.stamp.Stamp.TheVariants.{Date, Floating, Utc, Zoned}
use Rattle.ics_event.specs.Event.{Rdate}
use Rattle.ics_values.specs.declared.time.Rdate.TheVariants.{At, Span}
use Rattle.ics_event.specs.Event.{Time}
use Rattle.ics_listing.specs.FileClocks.{day_of}
use Rattle.ics_listing.specs.declared.start.StartSource.{StartSource}
use Rattle.ics_listing.specs.declared.start.StartSource.TheVariants.{Kept, Listed}

-- the local of a stamp; that of a date is its midnight
abbrev pub local_of : Stamp → Local
local_of (Date day) = local_at day 0
local_of (Floating local) = local
local_of (Utc local) = local
local_of (Zoned local) = local

-- the stamp of the same kind for another local; a date has the local's day
abbrev pub stamp_at : Stamp → Local → Stamp
stamp_at (Date day) local = Date local.day
stamp_at (Floating first) local = Floating local
stamp_at (Utc first) local = Utc local
stamp_at (Zoned first) local = Zoned local

-- the time of the same kind, in the same zone, at another local
abbrev pub time_at : Time → Local → Time
time_at time local = record { stamp = stamp_at time.stamp local; zone = time.zone }

-- the date of a time
abbrev pub date_only : Time → Time
date_only time = record { stamp = Date (day_of time.stamp); zone = None }

-- the time at which a value of an RDATE begins
abbrev pub time_of : Rdate → Time
time_of (At time) = time
time_of (Span start length) = start

-- One source of starts is not after another. Locals come first, in their order, and then RDATEs in the order of the file.
abbrev pub IsNotAfter : StartSource → StartSource → Type 0
IsNotAfter (Kept a) (Kept b) = local_seconds a ≤ℤ local_seconds b
IsNotAfter (Kept a) (Listed place) = ⊤
IsNotAfter (Listed place) (Kept b) = ⊥
IsNotAfter (Listed a) (Listed b) = a ≤ b
