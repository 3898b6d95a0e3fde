-- The texts of display zones: `UTC`, `Z`, a sign with hours and minutes, or the rule of a POSIX TZ string.
use Rattle.std.specs.Prelude.{ℕ, ℤ, pos, ◌==◌, ◌||◌, List, [], ◌∷◌, Option, Some, None, option_map, codes, if◌then◌else◌}
use Rattle.std.specs.Str.{bytes_eq}
use Rattle.jiff_core.specs.Sign.{signed}
use Rattle.jiff_tz.specs.PosixReader.{read_whole}
use Rattle.jiff_tz.specs.PosixText.{TzText}
use Rattle.ics_fields.specs.Clocks.{second_said}
use Rattle.ics_zone.specs.ZoneSaid.{ZoneSaid, Always, ByRule}

-- the seconds that a sign with hours and minutes says
abbrev pub offset_said : List ℕ → Option ℤ
offset_said (sign ∷ clock) =
    if (sign == 43) || (sign == 45) then option_map (λ seconds. signed (sign == 45) seconds) (second_said clock) else None
offset_said [] = None

-- the first of two, if it is there, and else the second
abbrev first_said : Option ℤ → Option TzText → Option ZoneSaid
first_said (Some seconds) rule = Some (Always seconds)
first_said None rule = option_map ByRule rule

-- what the text of a display zone says, if it is one
abbrev pub display_of : List ℕ → Option ZoneSaid
display_of text =
    if bytes_eq text (codes "UTC") || bytes_eq text (codes "Z")
    then Some (Always (pos 0))
    else first_said (offset_said text) (read_whole text)
