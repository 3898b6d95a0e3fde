-- Times and lengths, with the names of zones or with their indices (RFC 5545, sections 3.2.19 and 3.3.5).
use Rattle.std.specs.Prelude.{Option, None, if◌then◌else◌}
use Rattle.std.specs.Option.{option_and_then}
use Rattle.ics_values.specs.Zoned.{is_zoned}
use Rattle.ics_values.specs.declared.stamp.Stamp.{Stamp}
use Rattle.ics_values.specs.declared.time.Length.{Length}
use Rattle.ics_values.specs.declared.time.Length.TheVariants.{Open, Until, Lasting}
use Rattle.ics_values.specs.declared.time.Rdate.{Rdate}
use Rattle.ics_values.specs.declared.time.Rdate.TheVariants.{At, Span}
use Rattle.ics_values.specs.declared.time.Time.{Time}

-- The time of a stamp, given the zone that its TZID names.
abbrev pub time_in : {Z : Type 0} → Option Z → Stamp → Time Z
time_in zone stamp = record { stamp = stamp; zone = if is_zoned stamp then zone else None }

-- THE SAME with other zones, given the one that stands for each.
abbrev pub map_time : {Z Y : Type 0} → (Z → Option Y) → Time Z → Time Y
map_time zone_of time = record { stamp = time.stamp; zone = option_and_then zone_of time.zone }

abbrev pub map_length : {Z Y : Type 0} → (Z → Option Y) → Length Z → Length Y
map_length zone_of Open = Open
map_length zone_of (Until end) = Until (map_time zone_of end)
map_length zone_of (Lasting duration) = Lasting duration

abbrev pub map_rdate : {Z Y : Type 0} → (Z → Option Y) → Rdate Z → Rdate Y
map_rdate zone_of (At time) = At (map_time zone_of time)
map_rdate zone_of (Span start length) = Span (map_time zone_of start) (map_length zone_of length)

-- the start of a PERIOD, or the stamp
abbrev pub start_of : {Z : Type 0} → Rdate Z → Time Z
start_of (At time) = time
start_of (Span start length) = start
