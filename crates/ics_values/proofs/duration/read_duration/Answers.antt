use Rattle.std.proofs.Common.{◌≡◌, ◌≤◌, ◌<◌, ◌+◌, ◌*◌, ℕ, true, false, List, [], ◌∷◌, Ok, Err, nat_le, refl, arith, sym, lit<, ◌∙◌, inl, inr}
use Rattle.std.proofs.lemmas.Bool.{cases_Bool}
use Rattle.std.proofs.lemmas.Bool.Decides.{nat_tests}
use Rattle.ics_values.specs.declared.amounts.Amounts.{Amounts}
use Rattle.ics_values.specs.Digits.{greatest_number}
use Rattle.ics_values.specs.Texts.{begins, is_sign, is_minus, unsigned}
use Rattle.ics_values.specs.Durations.{amount, weeks, days, hours, minutes, seconds, is_duration_text, amounts_fit, duration_of}
use Rattle.ics_values.specs.declared.duration.DurationFault.TheVariants.{NumberTooLarge}
use Rattle.ics_values.specs.Inner.Amounts.{HasAmounts, capped, each_fits}
use Rattle.ics_values.proofs.duration.read_duration.Goals as goal

are_small : (a : Amounts) → each_fits a ≡ true → (a.weeks ≤ greatest_number) × (a.days ≤ greatest_number) × (a.hours ≤ greatest_number)
    × (a.minutes ≤ greatest_number) × (a.seconds ≤ greatest_number)
are_small a h = grind (arith, nat_tests)

-- the sign before a text is no unit and no digit
amount-unsigned : (unit : ℕ) (text : List ℕ) → 57 < unit → amount unit text ≡ amount unit (unsigned text)
amount-unsigned unit [] low = refl
amount-unsigned unit (b ∷ bs) low = elim (cases_Bool (is_sign b)) [ inl h ↦ rw h (behind_sign h) | inr h ↦ rw h refl ]
  where
    behind_sign : is_sign b ≡ true → amount unit (b ∷ bs) ≡ amount unit bs
    behind_sign h = grind (arith, nat_tests)

has_unsigned : (text : List ℕ) (a : Amounts) → HasAmounts (unsigned text) a → HasAmounts text a
has_unsigned text a has = record {
  weeks = rw (amount-unsigned 87 text (lit< tt)) has.weeks;
  days = rw (amount-unsigned 68 text (lit< tt)) has.days;
  hours = rw (amount-unsigned 72 text (lit< tt)) has.hours;
  minutes = rw (amount-unsigned 77 text (lit< tt)) has.minutes;
  seconds = rw (amount-unsigned 83 text (lit< tt)) has.seconds;
}

-- a number that is held fits where that of the text does
capped_fits : (n : ℕ) → nat_le (capped n) greatest_number ≡ nat_le n greatest_number
capped_fits n = grind (arith, nat_tests)

refused : (text : List ℕ) (a : Amounts) → is_duration_text text ≡ true → HasAmounts text a → each_fits a ≡ false → Err NumberTooLarge ≡ duration_of text
refused text a ordered has large =
    let same : each_fits a ≡ amounts_fit text = rw (has.weeks, has.days, has.hours, has.minutes, has.seconds) (simp capped_fits) in
    rw (ordered, sym same ∙ large) refl

said : (text : List ℕ) (a : Amounts) → is_duration_text text ≡ true → HasAmounts text a → each_fits a ≡ true →
    duration_of text ≡ Ok (record {
      negative = begins is_minus text;
      days = 7 * a.weeks + a.days;
      seconds = 3600 * a.hours + 60 * a.minutes + a.seconds;
    })
said text a ordered has fits =
    let (few_weeks, few_days, few_hours, few_minutes, few_seconds) = are_small a fits in
    let w : weeks text ≡ a.weeks = omega arith in
    let d : days text ≡ a.days = omega arith in
    let h : hours text ≡ a.hours = omega arith in
    let m : minutes text ≡ a.minutes = omega arith in
    let s : seconds text ≡ a.seconds = omega arith in
    rw (ordered, w, d, h, m, s, fits) refl

pub returns-then-not-fit-clause-value : goal.returns-then-not-fit-clause-value
returns-then-not-fit-clause-value c =
    let reads = rw c.unsigned.ensures at c.in-Some.ensures in
    refused c.args.text.now c.in-Some.amounts reads.0 (has_unsigned c.args.text.now c.in-Some.amounts reads.1) (sym c.if-not-fit.ensures)

pub returns-clause-value : goal.returns-clause-value
returns-clause-value c =
    let text = c.args.text.now in
    let reads = rw c.unsigned.ensures at c.in-Some.ensures in
    rw c.is_negative.ensures (sym (said text c.in-Some.amounts reads.0 (has_unsigned text c.in-Some.amounts reads.1) (sym c.if-not-fit.ensures)))

pub returns-clause-range : goal.returns-clause-range
returns-clause-range c =
    let (weeks, days, hours, minutes, seconds) = are_small c.in-Some.amounts (sym c.if-not-fit.ensures) in
    record { days = omega arith; seconds = omega arith }
