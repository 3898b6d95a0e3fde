-- Which weekdays BYDAY names.
use Rattle.std.specs.Prelude.{ℕ, zero, suc, Bool, not, ◌||◌, if◌then◌else◌}
use Rattle.ics_fields.specs.declared.ordinals.Weekdays.{Weekdays}
use Rattle.ics_fields.specs.Sets.{contains, with_number}
use Rattle.ics_fields.specs.Ordinals.{lists_none, numbers_of}

-- BYDAY names weekday d, with a number or without
abbrev pub names_weekday : Weekdays → ℕ → Bool
names_weekday w d = contains w.plain d || not (lists_none (numbers_of w d))

-- the named weekdays before weekday d, from 0 for Monday, as a set
unfoldable pub named_below : Weekdays → ℕ → ℕ
named_below w zero = 0
named_below w (suc d) = if names_weekday w d then with_number d (named_below w d) else named_below w d
