-- Whether a stamp is in a time zone (RFC 5545, section 3.3.5).
use Rattle.std.specs.Prelude.{Bool, true, false}
use Rattle.ics_values.specs.declared.stamp.Stamp.{Stamp}
use Rattle.ics_values.specs.declared.stamp.Stamp.TheVariants.{Zoned}

abbrev pub is_zoned : Stamp → Bool
is_zoned (Zoned local) = true
is_zoned _ = false
