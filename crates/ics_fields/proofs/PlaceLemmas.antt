-- Places keep within their range.
use Rattle.std.proofs.Common.{ℕ, List, ◌<◌, ◌≤◌, ◌/◌, inl, inr, length, get_or-set_same, get_or-set_other, sym, subst, ◌∙◌, arith}
use Rattle.std.proofs.lemmas.Bool.{cases_eq, cases_lt, false≢true}
use Rattle.std.proofs.lemmas.List.{set_past}
use Rattle.jiff_core.specs.declared.civil.weekday.Weekday.{Weekday}
use Rattle.jiff_core.specs.declared.civil.weekday.Weekday.TheVariants.{Monday}
use Rattle.jiff_core.specs.Weekday.{monday_zero}
use Rattle.ics_fields.specs.declared.frequency.Frequency.{Frequency}
use Rattle.ics_fields.specs.declared.ordinals.Side.{Side}
use Rattle.ics_fields.specs.declared.ordinals.Side.TheVariants.{Front, Back}
use Rattle.ics_fields.specs.declared.ordinals.Ordinals.{Ordinals}
use Rattle.ics_fields.specs.declared.ordinals.WideOrdinals.{WideOrdinals}
use Rattle.ics_fields.specs.declared.ordinals.Weekdays.{Weekdays}
use Rattle.ics_fields.specs.Sets.{contains, contains_wide, none_wide, with_number, with_wide_number, IsWithin}
use Rattle.ics_fields.specs.Ordinals.{no_ordinals, no_wide_ordinals, no_weekdays, numbers_of}
use Rattle.ics_fields.specs.Ordinals.{with_ordinal, with_wide_ordinal, with_weekday, with_numbered_weekday}
use Rattle.ics_fields.specs.RuleParts.{every, ArePlaces, AreWidePlaces, IsRuleParts}
use Rattle.ics_fields.proofs.SetLemmas.{IsFrom, within_more, contains-with_number, contains_wide-with_number, has_none, none_wide_has, same_at}

-- a set keeps within its range when a number of it is added
number_more : {low high n : ℕ} (s : ℕ) → n < 64 → IsFrom low high n → IsWithin low high (contains s) → IsWithin low high (contains (with_number n s))
number_more {n = n} s small is own = within_more (contains s) (contains (with_number n s)) (λ m. contains-with_number s n m small) own is

wide_number_more : {low high n : ℕ} (ws : List ℕ) → n < 384 → n / 64 < length ws → IsFrom low high n → IsWithin low high (contains_wide ws) →
    IsWithin low high (contains_wide (with_wide_number n ws))
wide_number_more {n = n} ws small inside is own =
    within_more (contains_wide ws) (contains_wide (with_wide_number n ws)) (λ m. contains_wide-with_number ws n m inside small) own is

pub ordinals_more : (side : Side) {n high : ℕ} {p : Ordinals} → n < 64 → IsFrom 1 high n → ArePlaces p high → ArePlaces (with_ordinal side n p) high
ordinals_more Front {p = p} s is own = record { front = number_more p.front s is own.front; back = own.back }
ordinals_more Back {p = p} s is own = record { front = own.front; back = number_more p.back s is own.back }

pub wide_ordinals_more : (side : Side) {n high : ℕ} {p : WideOrdinals} → n < 384 → n / 64 < length p.front → n / 64 < length p.back → IsFrom 1 high n →
    AreWidePlaces p high → AreWidePlaces (with_wide_ordinal side n p) high
wide_ordinals_more Front {p = p} s f b is own = record { front = wide_number_more p.front s f is own.front; back = own.back }
wide_ordinals_more Back {p = p} s f b is own = record { front = own.front; back = wide_number_more p.back s b is own.back }

-- a weekday is one of seven
pub monday_zero_small : (d : Weekday) → monday_zero d ≤ 6
monday_zero_small Monday = omega arith
monday_zero_small d = omega arith

pub weekdays_more : (d : Weekday) (w : Weekdays) → IsWithin 0 6 (contains w.plain) → IsWithin 0 6 (contains (with_weekday d w).plain)
weekdays_more d w own =
    let small = monday_zero_small d in
    number_more w.plain (omega (arith, small)) (record { first = omega arith; last = small }) own

-- the numbers of one weekday, and those of the others
pub numbered_more : (d : Weekday) (side : Side) {n : ℕ} (w : Weekdays) → IsFrom 1 53 n → ((k : ℕ) → ArePlaces (numbers_of w k) 53)
    → (k : ℕ) → ArePlaces (numbers_of (with_numbered_weekday d side n w) k) 53
numbered_more d side {n} w is own k = elim (cases_lt (monday_zero d) (length w.numbered)) [
  | inl inside ↦ elim (cases_eq k (monday_zero d)) [
    | inl same ↦ rw (same, get_or-set_same) (ordinals_more side (omega arith) is (own (monday_zero d)))
    | inr other ↦ rw (get_or-set_other) (own k)
  ]
  | inr past ↦ rw (set_past w.numbered (monday_zero d) (with_ordinal side n (numbers_of w (monday_zero d))) past) (own k)
]

-- a part that is absent is in any range
none_within : (low high : ℕ) → IsWithin low high (contains 0)
none_within low high n h = absurd (false≢true (sym (has_none n) ∙ h))

none_within_wide : (low high : ℕ) → IsWithin low high (contains_wide none_wide)
none_within_wide low high n h = absurd (false≢true (sym (none_wide_has n) ∙ h))

none_placed : (high : ℕ) → ArePlaces no_ordinals high
none_placed high = record { front = none_within 1 high; back = none_within 1 high }

none_placed_wide : (high : ℕ) → AreWidePlaces no_wide_ordinals high
none_placed_wide high = record { front = none_within_wide 1 high; back = none_within_wide 1 high }

none_numbered : (w : ℕ) → ArePlaces (numbers_of no_weekdays w) 53
none_numbered w = subst (λ p. ArePlaces p 53) (sym (same_at 7 w no_ordinals)) (none_placed 53)

-- the rule with FREQ alone
pub every_kept : (f : Frequency) → IsRuleParts (every f)
every_kept f = record {
  interval = omega arith;
  count = tt;
  until = tt;
  seconds = none_within 0 59;
  minutes = none_within 0 59;
  hours = none_within 0 23;
  weekdays = none_within 0 6;
  numbered = none_numbered;
  month_days = none_placed 31;
  year_days = none_placed_wide 366;
  weeks = none_placed 53;
  months = none_within 1 12;
  positions = none_placed_wide 366;
}
