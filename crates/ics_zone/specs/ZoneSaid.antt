-- What a zone says: one offset, the rule of a POSIX TZ string, a zone file (RFC 9636), or the observances of a VTIMEZONE (RFC 5545, section 3.6.5). A
-- display zone says one of the first three, and a zone that a TZID names one of the last two.
use Rattle.std.specs.Prelude.{◌≡◌, ℕ, ℤ, ◌-ℤ◌, List, Some}
use Rattle.jiff.specs.Words.{nanos_of_seconds}
use Rattle.jiff_tz.specs.PosixText.{TzText, tz_view}
use Rattle.jiff_tz.specs.Tzif.{tzif_view}
use Rattle.jiff_tz.specs.TzifReader.{TzifText}
use Rattle.ics_zone.specs.Observances.{ObservanceSaid}
use Rattle.ics_zone.specs.ZoneOffsets.{zone_offset}
use Rattle.ics_zone.specs.Moments.{zone_moment}
use Rattle.ics_zone.specs.ZoneFiles.{rule_type, rule_reading, file_offset, file_moment, zone_file}
use Rattle.ics_zone.specs.declared.display.Display.{Display}
use Rattle.ics_zone.specs.declared.jiff_zone.JiffZone.{JiffZone}
use Rattle.ics_zone.specs.declared.jiff_zone.JiffZone.TheVariants.{Fixed, Posix, Table}
use Rattle.ics_zone.specs.declared.zone.ZoneKind.{ZoneKind}
use Rattle.ics_zone.specs.declared.zone.ZoneKind.TheVariants as kind

pub data ZoneSaid : Type 0 where
  Always : ℤ → ZoneSaid
  ByRule : TzText → ZoneSaid
  ByFile : TzifText → ZoneSaid
  ByObservances : List ObservanceSaid → ZoneSaid

unfoldable pub jiff_said : JiffZone → ZoneSaid
jiff_said (Fixed offset) = Always offset.seconds
jiff_said (Posix rule) = ByRule (tz_view rule)
jiff_said (Table table) = ByFile (tzif_view table)

abbrev pub display_said : Display → ZoneSaid
display_said display = jiff_said display.zone

abbrev pub zone_said : ZoneKind → ZoneSaid
zone_said (kind.ByObservances observances) = ByObservances observances.said.items
zone_said (kind.ByJiff zone) = jiff_said zone

-- the zone says what jiff reads of these bytes
abbrev pub IsZoneOf : List ℕ → ZoneKind → Type 0
IsZoneOf bytes zone = (file : TzifText) × (zone_file bytes ≡ Some file) × (zone_said zone ≡ ByFile file)

-- the offset at an instant
unfoldable pub said_offset : ZoneSaid → ℤ → ℤ
said_offset (Always seconds) t = seconds
said_offset (ByRule rule) t = (rule_type rule (nanos_of_seconds t)).seconds
said_offset (ByFile file) t = file_offset file t
said_offset (ByObservances zone) t = zone_offset zone t

-- the instant of a local: but for observances, by the compatible strategy
unfoldable pub said_moment : ZoneSaid → ℤ → ℤ
said_moment (Always seconds) local = local -ℤ seconds
said_moment (ByRule rule) local = local -ℤ rule_reading rule.std_seconds rule.dst (nanos_of_seconds local)
said_moment (ByFile file) local = file_moment file local
said_moment (ByObservances zone) local = zone_moment zone local
