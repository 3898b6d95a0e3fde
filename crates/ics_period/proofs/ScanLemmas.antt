-- The next number that passes a test of its part / k and a test of its part % k.
use Rattle.std.proofs.Common.{◌≡◌, ℕ, ◌+◌, ◌*◌, ◌/◌, ◌%◌, ◌^◌, ◌<◌, ◌≤◌, ◌⊎◌, Bool, true, false, ◌==◌, ◌&&◌, nat_lt}
use Rattle.std.proofs.Common.{pos, arith}
use Rattle.std.proofs.lemmas.Bool.Decides.{nat_tests}
use Rattle.std.proofs.lemmas.Nat.{div-mul-add, mod-mul-add, div-add-mod', le-div}
use Rattle.std.proofs.lemmas.Nat.Bits.{bit_at-pow_other, bit_at-pow_same}
use Rattle.std.proofs.Math.Nat.{mod-lt, mul-le-mul_right}
use Rattle.jiff_core.specs.Calendar.{days_of_months, days_in_month}
use Rattle.jiff_core.proofs.CalendarLemmas.{days_of_months_more}
use Rattle.ics_fields.proofs.SetLemmas.{member_below}
pub use Rattle.ics_fields.proofs.SetLemmas.{none_wide_has as none_has}
use Rattle.ics_period.specs.declared.recurrence_period.RecurrencePeriod.{RecurrencePeriod}
use Rattle.ics_period.specs.RecurrencePeriods.{has_minute, has_time, has_day}
use Rattle.ics_fields.specs.Sets.{contains, only, IsLeastFrom}

module _ (k : ℕ) (some : 0 < k) where
  div_mono : (x m : ℕ) → x ≤ m → x / k ≤ m / k
  div_mono x m h = grind (arith, div-add-mod', le-div)

  same_block : (x m : ℕ) → m / k ≡ x / k → x ≤ m → x % k ≤ m % k
  same_block x m e h = grind (arith, div-add-mod')

  before_block : (m hi lo : ℕ) → lo < k → m < hi * k + lo → (m / k < hi) ⊎ ((m / k ≡ hi) × (m % k < lo))
  before_block m hi lo l h = grind (arith, nat_tests, div-add-mod', div-mul-add, div_mono)

  module _ (A B : ℕ → Bool) (small : (m : ℕ) → B m ≡ true → m < k) where
    -- in the block that the place lies in
    pub next_here : (x lo : ℕ) → A (x / k) ≡ true → IsLeastFrom B (x % k) lo → IsLeastFrom (λ n. A (n / k) && B (n % k)) x (x / k * k + lo)
    next_here x lo a next = grind (arith, nat_tests, before_block, div-add-mod', div-mul-add, div_mono, mod-mul-add, same_block)

    -- in a later block
    pub next_later : (x hi lo : ℕ) → ((m : ℕ) → x ≤ m → m / k ≡ x / k → (A (m / k) && B (m % k)) ≡ false) → IsLeastFrom A (x / k + 1) hi → IsLeastFrom B 0 lo →
        IsLeastFrom (λ n. A (n / k) && B (n % k)) x (hi * k + lo)
    next_later x hi lo none next first =
        grind (arith, nat_tests, before_block, div-add-mod', div-mul-add, div_mono, mod-lt, mod-mul-add, mul-le-mul_right)

    -- in no block
    pub none_later : (x : ℕ) → ((m : ℕ) → x ≤ m → m / k ≡ x / k → (A (m / k) && B (m % k)) ≡ false) → ((a : ℕ) → x / k + 1 ≤ a → A a ≡ false) →
        (m : ℕ) → x ≤ m → (A (m / k) && B (m % k)) ≡ false
    none_later x here later m low = let up = div_mono x m low in grind (arith, here m low)

    -- what is left where the block of the place is done
    pub block_out : (x : ℕ) → A (x / k) ≡ false → (m : ℕ) → x ≤ m → m / k ≡ x / k → (A (m / k) && B (m % k)) ≡ false
    block_out x a m low same = grind arith

    pub block_done : (x : ℕ) → ((m : ℕ) → x % k ≤ m → B m ≡ false) → (m : ℕ) → x ≤ m → m / k ≡ x / k → (A (m / k) && B (m % k)) ≡ false
    block_done x b m low same = grind (arith, same_block)

-- the set of one number, and the empty set
pub contains-only : (h m : ℕ) → contains (only h) m ≡ (m == h)
contains-only h m = grind (arith, nat_tests, bit_at-pow_other, bit_at-pow_same)

pub own_only : (f : ℕ → Bool) (own m : ℕ) → f own ≡ true → (m == own) ≡ ((m == own) && f m)
own_only f own m h = grind (arith, nat_tests)

-- what the test of one word says below 64
pub in_word : (n : ℕ) (b : Bool) → n < 64 → (nat_lt n 64 && b) ≡ b
in_word n b h = grind (arith, nat_tests)

-- minutes and seconds of the product lie in the day
pub minute_below : (hours minutes m : ℕ) → hours < 2 ^ 24 → has_minute hours minutes m ≡ true → m < 1440
minute_below hours minutes m h e = grind (arith, member_below hours 24 (m / 60))

pub second_below : (hours minutes seconds t : ℕ) → hours < 2 ^ 24 → has_time hours minutes seconds t ≡ true → t < 86_400
second_below hours minutes seconds t h e = grind (arith, minute_below hours minutes (t / 60))

-- a time of day by its readings
pub time_at : (hours minutes seconds n : ℕ) → has_time hours minutes seconds (n % 86_400)
    ≡ ((contains hours (n / 3_600 % 24) && contains minutes (n / 60 % 60)) && contains seconds (n % 60))
time_at hours minutes seconds n = grind arith

-- one month more
pub months_more : (y n : ℕ) → days_of_months (pos y) n + days_in_month (pos y) (n + 1) ≡ days_of_months (pos y) (n + 1)
months_more y n = grind (arith, days_of_months_more)

-- a product has no day before its first
pub day_before : (p : RecurrencePeriod) (m : ℕ) → m < p.first_day → has_day p m ≡ false
day_before p m h = grind (arith, nat_tests)

pub minute_true : (hours minutes m : ℕ) {a b : Bool} → m ≤ 1440 → a ≡ (nat_lt (m / 60) 64 && contains hours (m / 60)) →
    b ≡ (nat_lt (m % 60) 64 && contains minutes (m % 60)) → has_minute hours minutes m ≡ (a && b)
minute_true hours minutes m h ea eb = grind (arith, nat_tests, in_word)
