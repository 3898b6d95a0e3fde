-- The marks of an hour, minute by minute.
use Rattle.std.proofs.Common.{◌≡◌, ◌≢◌, ℕ, ◌*◌, ◌/◌, ◌%◌, ◌^◌, ◌<◌, refl, ◌==◌, ◌||◌, arith, List, length, get_or, set, get_or-set_same}
use Rattle.std.proofs.Common.{get_or-set_other, bit_or, ℤ, pos, ◌+◌, ◌&&◌, nat_lt, int_lt}
use Rattle.std.proofs.lemmas.Bool.{cases_eq}
use Rattle.std.proofs.lemmas.Bool.Decides.{nat_tests}
use Rattle.ics_fields.specs.Sets.{contains}
use Rattle.ics_fields.proofs.SetLemmas.{contains-or_bit}
use Rattle.ics_zone.specs.Inner.Marks.{is_marked}

-- one minute set anew
module _ (marks : List ℕ) (minute word k : ℕ) where
  pub marked-set_same : minute < length marks → k / 60 ≡ minute → is_marked (set marks minute word) k ≡ contains word (k % 60)
  marked-set_same inside e = rw (e, get_or-set_same) refl

  pub marked-set_other : k / 60 ≢ minute → is_marked (set marks minute word) k ≡ is_marked marks k
  marked-set_other ne = rw (get_or-set_other) refl

-- the first seconds of the word of a minute, those before a count
pub record IsFront (minute : ℕ) (count : ℤ) (size word part : ℕ) : Type 0 where
  pub is_size : (n : ℕ) → n < 60 → nat_lt n size ≡ int_lt (pos (minute * 60 + n)) count
  pub is_part : (n : ℕ) → contains part n ≡ (nat_lt n size && contains word n)

pub front_is : {minute : ℕ} {count : ℤ} {size word part : ℕ} → IsFront minute count size word part
    → (k : ℕ) → k / 60 ≡ minute → contains part (k % 60) ≡ (int_lt (pos k) count && contains word (k % 60))
front_is {minute = minute} front k e =
    let here : minute * 60 + k % 60 ≡ k = omega arith in
    rw (front.is_part (k % 60), front.is_size (k % 60) (omega arith), here) refl

same_in_minute : (m n : ℕ) → m / 60 ≡ n / 60 → (m % 60 == n % 60) ≡ (m == n)
same_in_minute m n e = grind (arith, nat_tests)

-- one second marked
pub marked-set_bit : (marks : List ℕ) (second k : ℕ) → second / 60 < length marks
    → is_marked (set marks (second / 60) (bit_or (get_or marks (second / 60) 0) (1 * 2 ^ (second % 60) % 18446744073709551616))) k
    ≡ ((k == second) || is_marked marks k)
marked-set_bit marks second k h = grind (arith, nat_tests, cases_eq, marked-set_same, marked-set_other, contains-or_bit, same_in_minute)
