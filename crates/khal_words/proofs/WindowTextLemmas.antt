-- What parsed digits, and a text without its last byte, say of a window text.
use Rattle.std.proofs.Common.{◌≡◌, ◌≢◌, ◌<◌, ◌≤◌, ◌-◌, ◌+◌, ◌^◌, ◌++◌, ◌∷◌, [], ℕ, pos, true, List, Some, None, length, take, get_or, ◌==◌, refl}
use Rattle.std.proofs.Common.{sym, ◌∙◌, arith, rules}
use Rattle.std.proofs.lemmas.List.{take_all, take_more}
use Rattle.std.proofs.lemmas.Bool.{and_right, eqb-true, false_from_ne_true}
use Rattle.std.proofs.lemmas.Bool.Decides.{nat_tests}
use Rattle.std.proofs.lemmas.Str.Parse.{IsNumeralModel, numerals_by_value}
use Rattle.std.specs.List.{list_all}
use Rattle.std.specs.Char.{is_ascii_digit}
use Rattle.std.specs.Str.Parse.{digits_value}
use Rattle.jiff_core.proofs.SignedLemmas.{signed_arith}
use Rattle.jiff_core.specs.Calendar.{IsDate, days_from_civil}
use Rattle.jiff_core.specs.Date.{IsYmd, epoch_day}
use Rattle.jiff_core.specs.declared.civil.date.Date.{Date}
use Rattle.khal_words.specs.WindowTexts.{has_date, day_number, before_d, most_days, number_said, is_number_of_days}

-- digits as this crate tests them
pub own : IsNumeralModel (λ ds. list_all is_ascii_digit ds ≡ true) (digits_value 10)
own = numerals_by_value _ (search rules)

-- no digits, or too many, write no number of days
pub none_said : (ds : List ℕ) → ((0 < length ds) × (digits_value 10 ds < 2 ^ 32) → ⊥) → None ≡ number_said ds
none_said ds refuted =
    let fails = false_from_ne_true (is_number_of_days (digits_value 10 ds)) (λ fits.
    let bounds : (1 ≤ digits_value 10 ds) × (digits_value 10 ds ≤ most_days) = grind (arith, nat_tests) in
    let some = elim ds as (λ ds. 1 ≤ digits_value 10 ds → 0 < length ds) [ [] ↦ λ some. absurd (omega arith) | c ∷ cs ↦ λ some. omega arith ] in
    refuted (some bounds.0, omega arith)) in
    rw (and_right (list_all is_ascii_digit ds) _ fails) refl

-- the number of parsed digits
pub number_is : (ds : List ℕ) (n : ℕ) → list_all is_ascii_digit ds ≡ true → n ≡ digits_value 10 ds → 1 ≤ n → n ≤ most_days → Some n ≡ number_said ds
number_is ds n digits same some few =
    let fits : is_number_of_days n ≡ true = grind (arith, nat_tests) in
    rw (digits, ← same, fits) refl

-- a text that ends in `d` is its front and the `d`
ends_so : (text : List ℕ) → get_or text (length text - 1) 0 ≡ 100 → text ≡ take (length text - 1) text ++ 100 ∷ []
ends_so [] last = let bad : ◌≡◌ {A = ℕ} 0 100 = last in absurd (omega arith)
ends_so (c ∷ cs) last =
    rw (← last) (sym (take_all (length (c ∷ cs) - 1 + 1) (c ∷ cs) (omega arith)) ∙ take_more (c ∷ cs) (length (c ∷ cs) - 1) 0 (omega arith))

-- a text that does not end in `d` has nothing before it
pub before_d-none : (text : List ℕ) → ((front : List ℕ) → text ≢ front ++ 100 ∷ []) → None ≡ before_d text
before_d-none text other =
    rw (false_from_ne_true (get_or text (length text - 1) 0 == 100) (λ test. other _ (ends_so text (eqb-true _ _ test)))) refl

-- the number of a date that the calendar has
pub day_number_is : (year month day : ℕ) → IsDate (pos year) (pos month) (pos day) → day_number year month day ≡ Some (days_from_civil (pos year) month day)
day_number_is year month day exists = let has : has_date year month day ≡ true = grind (arith, nat_tests, signed_arith) in rw has refl

-- the number of a date with these parts
pub day_is : (year month day : ℕ) (date : Date) → IsYmd (pos year) (pos month) (pos day) date → epoch_day date ≡ days_from_civil (pos year) month day
day_is year month day date parts =
    let m : date.month ≡ month = omega (arith, signed_arith) in
    let d : date.day ≡ day = omega (arith, signed_arith) in
    rw (parts.0, m, d) refl
