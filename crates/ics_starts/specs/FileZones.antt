-- The zones by which the times of a file are read, and the times that can be read by them.
use Rattle.std.specs.Prelude.{◌≤ℤ◌, ◌+ℤ◌, ℤ, int_le, Bool, ◌||◌, List, length, map}
use Rattle.ics_event.specs.Event.{EndsBelow, HasZonesBelow, IsEvent, IsTime, TimeBelow, stamp_seconds}
use Rattle.ics_event.specs.declared.event.Event.{Event}
use Rattle.ics_event.specs.Event.{Time}
use Rattle.ics_event.specs.Event.{Length}
use Rattle.ics_values.specs.declared.time.Length.TheVariants.{Until}
use Rattle.ics_zone.specs.ZoneSaid.{zone_said}
use Rattle.ics_zone.specs.declared.zone.ZoneKind.{ZoneKind}
use Rattle.ics_listing.specs.declared.window.Window.{Window}
use Rattle.ics_starts.specs.declared.zones.FileZones.{FileZones}
use Rattle.ics_listing.specs.FileClocks.{Clocks}
use Rattle.ics_starts.specs.Clocks.{clocks_of, display_clock, instant}
use Rattle.ics_listing.specs.WindowBounds.{lasts_most}
use Rattle.ics_fields.specs.Locals.{whole_days}

abbrev pub clocks_in : FileZones → Clocks
clocks_in zones = clocks_of (display_clock zones.display.now) (map zone_said zones.zones.now)

-- the local of a time is two days or more past the window's end; the time is then after that in every zone
abbrev pub is_past : Window → Time → Bool
is_past w time = int_le (w.to +ℤ whole_days 2) (stamp_seconds time.stamp)

-- the local of a time is two days or more before an instant; the time is then before that in every zone
abbrev pub is_early : ℤ → Time → Bool
is_early t time = int_le (stamp_seconds time.stamp +ℤ whole_days 2) t

-- the local of a time tells that the time is before an instant or past the window's end
abbrev pub is_outside : Window → ℤ → Time → Bool
is_outside w from time = is_early from time || is_past w time

-- the zone of an end is one of these
abbrev pub HasEndIn : List ZoneKind → Length → Type 0
HasEndIn zones lasts = EndsBelow (length zones) lasts

-- a time of a file with these zones
pub record IsTimeOf (zones : List ZoneKind) (time : Time) : Type 0 where
  pub is_time : IsTime time
  pub within : TimeBelow (length zones) time

abbrev pub IsEndOf : List ZoneKind → Length → Type 0
IsEndOf zones (Until end) = IsTimeOf zones end
IsEndOf zones _ = Unit {0}

-- the instant of a DTEND is not after that of DTSTART by more than an event lasts at most
abbrev pub EndsNear : Clocks → Time → Length → Type 0
EndsNear clocks first (Until end) = instant clocks end ≤ℤ (instant clocks first +ℤ lasts_most)
EndsNear clocks first _ = Unit {0}

-- an event of a file with these zones
pub record IsOwnEvent (zones : FileZones) (event : Event) : Type 0 where
  pub start : IsTimeOf zones.zones.now event.start
  pub end : IsEndOf zones.zones.now event.length
  pub near : EndsNear (clocks_in zones) event.start event.length
  pub is_event : IsEvent event
  pub below : HasZonesBelow (length zones.zones.now) event
