-- Instants and locals of times (RFC 5545, sections 3.3.4, 3.3.5 and 3.6.5). A local is counted in seconds from
-- 1970-01-01T00:00:00, each day having 86,400.
use Rattle.std.specs.Prelude.{ℕ, ℤ, pos, ◌+ℤ◌, ◌&&◌, int_le, int_lt, Bool, List, map, slice_index_or, IfSome, Option, Some, None}
use Rattle.ics_values.specs.declared.stamp.Stamp.{Stamp}
use Rattle.ics_values.specs.declared.stamp.Stamp.TheVariants.{Date, Floating, Utc, Zoned}
use Rattle.ics_event.specs.Event.{Time}
use Rattle.ics_zone.specs.Bounds.{HasBounds}
use Rattle.ics_zone.specs.Spans.{AreSpans}
use Rattle.ics_zone.specs.Stretches.{IsStretch}
use Rattle.ics_zone.specs.declared.bounds.Bounds.{Bounds}
use Rattle.ics_zone.specs.declared.spans.Spans.{Spans}
use Rattle.ics_zone.specs.declared.stretch.Stretch.{Stretch}
use Rattle.ics_zone.specs.ZoneSaid.{ZoneSaid, display_said, said_moment, said_offset}
use Rattle.ics_zone.specs.declared.display.Display.{Display}
use Rattle.ics_event.specs.Event.{stamp_seconds}
use Rattle.ics_listing.specs.FileClocks.{Clock, Clocks}

abbrev pub utc_clock : Clock
utc_clock = record { moment = λ local. local; offset = λ t. pos 0 }

abbrev pub zone_clock : ZoneSaid → Clock
zone_clock zone = record { moment = said_moment zone; offset = said_offset zone }

abbrev pub display_clock : Display → Clock
display_clock display = zone_clock (display_said display)

abbrev pub clocks_of : Clock → List ZoneSaid → Clocks
clocks_of display zones = record { display = display; zones = map zone_clock zones }

-- what a clock shows at an instant
abbrev pub local_at : Clock → ℤ → ℤ
local_at clock t = t +ℤ clock.offset t

-- the clock of the zone with an index
abbrev pub clock_at : List Clock → Option ℕ → Clock
clock_at zones (Some index) = slice_index_or zones index utc_clock
clock_at zones None = utc_clock

-- The clock by which a stamp is read: that of the display zone for a date and a floating stamp, that of UTC for a stamp in UTC,
-- and for a zoned stamp that of its own zone, which is one of the file's.
abbrev pub clock_by : Clocks → Option ℕ → Stamp → Clock
clock_by clocks index (Date day) = clocks.display
clock_by clocks index (Floating local) = clocks.display
clock_by clocks index (Utc local) = utc_clock
clock_by clocks index (Zoned local) = clock_at clocks.zones index

-- the clock of a time's zone
abbrev pub clock_of : Clocks → Time → Clock
clock_of clocks time = clock_by clocks time.zone time.stamp

-- the instant of a time
abbrev pub instant : Clocks → Time → ℤ
instant clocks time = (clock_of clocks time).moment (stamp_seconds time.stamp)

-- a clock stays between these offsets
abbrev pub IsBounded : Clock → Bounds → Type 0
IsBounded clock b = HasBounds clock.offset clock.moment b.least b.most

-- a clock shows the locals of a stretch by one offset
abbrev pub IsStretched : Clock → Stretch → Type 0
IsStretched clock s = IsStretch clock.offset clock.moment s

-- the spans that are kept, if there are some, are those of a clock
abbrev pub AreSpansOf : Clock → Option Spans → Type 0
AreSpansOf clock spans = ∥ IfSome spans (AreSpans clock.offset clock.moment) ∥₁

-- a local, given by its seconds, is in a stretch
abbrev pub is_in : Stretch → ℤ → Bool
is_in s local = int_le s.from local && int_lt local s.to
