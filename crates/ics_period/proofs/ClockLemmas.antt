-- Times of day that the parts of a rule let in.
use Rattle.std.proofs.Common.{◌≡◌, ℕ, ◌+◌, ◌*◌, ◌/◌, ◌%◌, ◌<◌, ◌≤◌, true, false, ◌||◌, ◌&&◌, ◌==◌, refl, sym, ◌∙◌, arith}
use Rattle.ics_fields.specs.Sets.{contains, IsLeastFrom}
use Rattle.ics_period.specs.declared.effective_rule.EffectiveRule.{EffectiveRule}
use Rattle.ics_period.specs.Candidates.{lets, lets_clock}
use Rattle.ics_period.specs.RecurrencePeriods.{has_time}
use Rattle.ics_period.proofs.ScanLemmas.{time_at}

-- the clock is that of the time of day
pub same_time : (q : EffectiveRule) (m : ℕ) → lets_clock q (m % 86_400) ≡ lets_clock q m
same_time q m =
    let hour : m % 86_400 / 3_600 % 24 ≡ m / 3_600 % 24 = omega arith in
    let minute : m % 86_400 / 60 % 60 ≡ m / 60 % 60 = omega arith in
    let second : m % 86_400 % 60 ≡ m % 60 = omega arith in
    rw (hour, minute, second) refl

-- the readings of a whole day that the parts let in
module _ (q : EffectiveRule) (hours minutes seconds : ℕ)
    (h : (m : ℕ) → m < 24 → contains hours m ≡ ((true || (m == 0)) && lets q.hours m))
    (i : (m : ℕ) → m < 60 → contains minutes m ≡ ((true || (m == 0)) && lets q.minutes m))
    (s : (m : ℕ) → m < 60 → contains seconds m ≡ ((true || (m == 0)) && lets q.seconds m)) where
  clock_is : (n : ℕ) → has_time hours minutes seconds (n % 86_400) ≡ lets_clock q n
  clock_is n = time_at hours minutes seconds n ∙ rw (h (n / 3_600 % 24) (omega arith), i (n / 60 % 60) (omega arith), s (n % 60) (omega arith)) refl

  pub second_next : (n : ℕ) {t : ℕ} → t < 86_400 → IsLeastFrom (has_time hours minutes seconds) (n % 86_400) t → (m : ℕ) → n ≤ m → m < n / 86_400 * 86_400 + t →
      lets_clock q m ≡ false
  second_next n small next m l u = sym (clock_is m) ∙ next.least (m % 86_400) (omega (arith, l, u, small)) (omega (arith, l, u, small))

  pub second_none : (n : ℕ) → ((t : ℕ) → n % 86_400 ≤ t → has_time hours minutes seconds t ≡ false) → (m : ℕ) → n ≤ m → m < (n / 86_400 + 1) * 86_400 →
      lets_clock q m ≡ false
  second_none n none m l u = sym (clock_is m) ∙ none (m % 86_400) (omega (arith, l, u))
