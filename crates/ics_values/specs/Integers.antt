-- The texts of integers, and what they mean (RFC 5545, section 3.3.8).
use Rattle.std.specs.Prelude.{ℕ, not, ◌==◌, nat_le, List, drop, Result, Ok, Err, if◌then◌else◌}
use Rattle.ics_values.specs.Digits.{are_digits, number_of, greatest_number}
use Rattle.ics_values.specs.Texts.{begins}
use Rattle.ics_values.specs.declared.integer.IntegerFault.{IntegerFault}
use Rattle.ics_values.specs.declared.integer.IntegerFault.TheVariants.{NotDigits, NumberTooLarge}

-- the text without the `+` that may begin it
abbrev pub without_plus : List ℕ → List ℕ
without_plus text = if begins (λ b. b == 43) text then drop 1 text else text

-- digits with or without a `+` before them
abbrev pub integer_of : List ℕ → Result ℕ IntegerFault
integer_of text =
    if not (are_digits (without_plus text)) then Err NotDigits
    else if not (nat_le (number_of (without_plus text)) greatest_number) then Err NumberTooLarge
    else Ok (number_of (without_plus text))
