-- A zone of jiff's changes an instant or a local by less than two days.
use Rattle.std.proofs.Common.{ℤ, arith, ◌-ℤ◌}
use Rattle.jiff.proofs.SpanFacts.{signed_arith}
use Rattle.jiff.specs.Words.{nanos_of_seconds, IsOffsetSeconds}
use Rattle.ics_zone.specs.Inner.FileBounds.{type_short, rule_short, file_offset_short, file_reading_short}
use Rattle.ics_zone.specs.Seconds.{IsNear}
use Rattle.ics_zone.specs.ZoneSaid.{jiff_said, display_said, said_offset, said_moment}
use Rattle.ics_zone.specs.declared.display.Display.{Display}
use Rattle.ics_zone.specs.declared.jiff_zone.JiffZone.{JiffZone}
use Rattle.ics_zone.specs.declared.jiff_zone.JiffZone.TheVariants.{Fixed, Posix, Table}

-- an offset of jiff's is less than two days
near : (offset : ℤ) → IsOffsetSeconds offset → IsNear offset
near offset bound = (omega (arith, signed_arith), omega (arith, signed_arith))

near_back : (local offset : ℤ) → IsOffsetSeconds offset → IsNear (local -ℤ offset -ℤ local)
near_back local offset bound = (omega (arith, signed_arith), omega (arith, signed_arith))

pub jiff_offset_near : (zone : JiffZone) (t : ℤ) → IsNear (said_offset (jiff_said zone) t)
unfolding said_offset jiff_said
jiff_offset_near (Fixed offset) t = near _ offset.in_range
jiff_offset_near (Posix rule) t = near _ (type_short rule (nanos_of_seconds t))
jiff_offset_near (Table table) t = near _ (file_offset_short table t)

pub jiff_moment_near : (zone : JiffZone) (local : ℤ) → IsNear (said_moment (jiff_said zone) local -ℤ local)
unfolding said_moment jiff_said
jiff_moment_near (Fixed offset) local = near_back local _ offset.in_range
jiff_moment_near (Posix rule) local = near_back local _ (rule_short rule (nanos_of_seconds local))
jiff_moment_near (Table table) local = near_back local _ (file_reading_short table local)

-- the same of a display zone
pub offset_near : (display : Display) (t : ℤ) → IsNear (said_offset (display_said display) t)
offset_near display = jiff_offset_near display.zone

pub moment_near : (display : Display) (local : ℤ) → IsNear (said_moment (display_said display) local -ℤ local)
moment_near display = jiff_moment_near display.zone
