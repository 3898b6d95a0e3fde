-- Numbers that count from the start or from the end, and the weekdays of BYDAY (RFC 5545, 3.3.10).
use Rattle.std.specs.Prelude.{ℕ, Bool, true, ◌&&◌, List, [], ◌∷◌, get_or, set}
use Rattle.jiff_core.specs.declared.civil.weekday.Weekday.{Weekday}
use Rattle.jiff_core.specs.Weekday.{monday_zero}
use Rattle.ics_fields.specs.declared.ordinals.Side.{Side}
use Rattle.ics_fields.specs.declared.ordinals.Side.TheVariants.{Front, Back}
use Rattle.ics_fields.specs.declared.ordinals.Ordinals.{Ordinals}
use Rattle.ics_fields.specs.declared.ordinals.WideOrdinals.{WideOrdinals}
use Rattle.ics_fields.specs.declared.ordinals.Weekdays.{Weekdays}
use Rattle.ics_fields.specs.Sets.{is_empty, is_empty_wide, none_wide, with_number, with_wide_number}

-- no number
abbrev pub no_ordinals : Ordinals
no_ordinals = record { front = 0; back = 0 }

abbrev pub no_wide_ordinals : WideOrdinals
no_wide_ordinals = record { front = none_wide; back = none_wide }

abbrev pub no_weekdays : Weekdays
no_weekdays = record { plain = 0; numbered = no_ordinals ∷ no_ordinals ∷ no_ordinals ∷ no_ordinals ∷ no_ordinals ∷ no_ordinals ∷ no_ordinals ∷ [] }

-- an absent part lists nothing
abbrev pub lists_none : Ordinals → Bool
lists_none p = is_empty p.front && is_empty p.back

abbrev pub lists_none_wide : WideOrdinals → Bool
lists_none_wide p = is_empty_wide p.front && is_empty_wide p.back

abbrev pub all_list_none : List Ordinals → Bool
all_list_none [] = true
all_list_none (p ∷ ps) = lists_none p && all_list_none ps

abbrev pub lists_no_weekday : Weekdays → Bool
lists_no_weekday w = is_empty w.plain && all_list_none w.numbered

-- the numbers that a weekday is listed with
abbrev pub numbers_of : Weekdays → ℕ → Ordinals
numbers_of ws w = get_or ws.numbered w no_ordinals

-- with the n-th from an end added
abbrev pub with_ordinal : Side → ℕ → Ordinals → Ordinals
with_ordinal Front n p = record p { front = with_number n p.front }
with_ordinal Back n p = record p { back = with_number n p.back }

abbrev pub with_wide_ordinal : Side → ℕ → WideOrdinals → WideOrdinals
with_wide_ordinal Front n p = record p { front = with_wide_number n p.front }
with_wide_ordinal Back n p = record p { back = with_wide_number n p.back }

-- with a weekday added, without a number, and with one
abbrev pub with_weekday : Weekday → Weekdays → Weekdays
with_weekday d w = record w { plain = with_number (monday_zero d) w.plain }

abbrev pub with_numbered_weekday : Weekday → Side → ℕ → Weekdays → Weekdays
with_numbered_weekday d side n w =
    record w { numbered = set w.numbered (monday_zero d) (with_ordinal side n (numbers_of w (monday_zero d))) }
