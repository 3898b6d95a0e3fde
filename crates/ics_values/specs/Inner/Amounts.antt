-- What is known of a duration's text when it is read part by part (RFC 5545, section 3.3.6).
use Rattle.std.specs.Prelude.{◌≡◌, ◌≢◌, ℕ, ◌<◌, Bool, true, false, min, nat_le, ◌&&◌, List, ◌∷◌, Option, Some, None}
use Rattle.ics_values.specs.Texts.{begins_with}
use Rattle.ics_values.specs.Digits.{greatest_number}
use Rattle.ics_values.specs.Durations.{shape, has_shape, amount_from, amount, weeks, days, hours, minutes, seconds}
use Rattle.ics_values.specs.declared.amounts.Amounts.{Amounts}

-- the number, or 4,294,967,296 if it is larger
abbrev pub capped : ℕ → ℕ
capped n = min n 4_294_967_296

-- the text is a letter and the rest
pub record IsLetter (letter : ℕ) (text rest : List ℕ) : Type 0 where
  pub shape : shape text ≡ letter ∷ shape rest
  pub own : (n : ℕ) → amount_from letter text n ≡ n
  pub others : (other n : ℕ) → other ≢ letter → amount_from other text n ≡ amount other rest

-- the text is a number before a unit, and the rest
pub record IsAmount (unit : ℕ) (text : List ℕ) (n : ℕ) (rest : List ℕ) : Type 0 where
  pub shape : shape text ≡ 48 ∷ unit ∷ shape rest
  pub number : n ≡ capped (amount unit text)
  pub others : (other : ℕ) → 57 < other → other ≢ unit → amount other text ≡ amount other rest

-- the shape of the text does not begin with this one
abbrev pub LacksFront : List ℕ → List ℕ → Type 0
LacksFront front text = begins_with front (shape text) ≡ false

-- the numbers are those of the text
pub record HasAmounts (text : List ℕ) (a : Amounts) : Type 0 where
  pub weeks : a.weeks ≡ capped (weeks text)
  pub days : a.days ≡ capped (days text)
  pub hours : a.hours ≡ capped (hours text)
  pub minutes : a.minutes ≡ capped (minutes text)
  pub seconds : a.seconds ≡ capped (seconds text)

-- the text has one of the shapes and these numbers, or it has none of the shapes
abbrev pub Reads : List (List ℕ) → List ℕ → Option Amounts → Type 0
Reads shapes text None = has_shape shapes text ≡ false
Reads shapes text (Some a) = (has_shape shapes text ≡ true) × HasAmounts text a

-- no number is too large
abbrev pub each_fits : Amounts → Bool
each_fits a = nat_le a.weeks greatest_number && nat_le a.days greatest_number && nat_le a.hours greatest_number && nat_le a.minutes greatest_number
    && nat_le a.seconds greatest_number
