-- What jiff answers for a zone of its own, and what the zone says.
use Rattle.std.specs.Prelude.{◌≡◌, ℤ, pos}
use Rattle.jiff.specs.Words.{nanos_of_seconds, civil_nanos, picked_instant}
use Rattle.jiff_core.specs.declared.civil.datetime.DateTime.{DateTime}
use Rattle.jiff_tz.specs.PosixText.{tz_view}
use Rattle.jiff_tz.specs.Tzif.{tzif_view}
use Rattle.jiff_tz.specs.Zone.{offset_at}
use Rattle.jiff_tz.specs.declared.timezone.TimeZone.{TimeZone}
use Rattle.jiff_tz.specs.declared.timezone.TimeZone.TheVariants.{UTC, Unknown, Fixed, Posix, Tzif}
use Rattle.ics_zone.specs.Moments.{IsMomentOf}
use Rattle.ics_zone.specs.ZoneOffsets.{IsOffset}
use Rattle.ics_zone.specs.ZoneSaid.{ZoneSaid, Always, ByRule, ByFile, ByObservances}

-- what a zone of jiff's says
abbrev pub plain_said : TimeZone → ZoneSaid
plain_said UTC = Always (pos 0)
plain_said Unknown = Always (pos 0)
plain_said (Fixed offset) = Always offset.seconds
plain_said (Posix rule) = ByRule (tz_view rule)
plain_said (Tzif table) = ByFile (tzif_view table.now)

-- the offset that jiff gives at an instant
abbrev pub offset_of : TimeZone → ℤ → ℤ
offset_of zone t = offset_at zone (nanos_of_seconds t)

-- t is the instant of this local by jiff's compatible strategy
pub record IsCompatible (zone : TimeZone) (local t : ℤ) : Type 0 where
  pub shown : DateTime
  pub same : civil_nanos shown ≡ nanos_of_seconds local
  pub picked : nanos_of_seconds t ≡ picked_instant zone shown

-- The offset at an instant, and the instant of a local, by what they mean: by observances as RFC 5545 says, and else what jiff answers for a
-- zone that says the same.
abbrev pub IsOffsetIn : ZoneSaid → ℤ → ℤ → Type 0
IsOffsetIn (ByObservances zone) t offset = IsOffset zone t offset
IsOffsetIn said t offset = (zone : TimeZone) × (plain_said zone ≡ said) × (offset ≡ offset_of zone t)

abbrev pub IsMomentIn : ZoneSaid → ℤ → ℤ → Type 0
IsMomentIn (ByObservances zone) local t = IsMomentOf zone local t
IsMomentIn said local t = (zone : TimeZone) × (plain_said zone ≡ said) × IsCompatible zone local t
