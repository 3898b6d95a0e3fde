-- Two digits, and hours and minutes, as they are written.
use Rattle.std.specs.Prelude.{ℕ, ◌+◌, ◌-◌, ◌*◌, ◌==◌, ◌&&◌, nat_lt, List, [], ◌∷◌, Option, Some, None, option_and_then, if◌then◌else◌}
use Rattle.std.specs.Char.{is_ascii_digit}

-- the number that two digits write
abbrev pub two_digits : ℕ → ℕ → Option ℕ
two_digits tens ones =
    if is_ascii_digit tens && is_ascii_digit ones then Some ((tens - 48) * 10 + (ones - 48)) else None

-- the second of the day at these hours and minutes
abbrev pub second_at : ℕ → ℕ → Option ℕ
second_at hours minutes =
    if nat_lt hours 24 && nat_lt minutes 60 then Some (hours * 3_600 + minutes * 60) else None

-- the second of the day of `HH:MM`
abbrev pub second_said : List ℕ → Option ℕ
second_said (a ∷ b ∷ colon ∷ c ∷ d ∷ []) =
    if colon == 58
    then option_and_then (λ hours. option_and_then (λ minutes. second_at hours minutes) (two_digits c d)) (two_digits a b)
    else None
second_said text = None
