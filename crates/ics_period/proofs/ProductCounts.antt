-- The place of a local in a product, and the product's size, by the sizes of its sets.
use Rattle.std.proofs.Common.{◌≡◌, ℕ, ◌+◌, ◌-◌, ◌*◌, ◌/◌, ◌%◌, ◌<◌, ◌≤◌, Bool, true, false, cond, ◌&&◌, nat_le, min, Option, IfSome}
use Rattle.std.proofs.Common.{refl, ap, ◌∙◌, arith}
use Rattle.std.proofs.lemmas.Bool.{and_right, cases_lt}
use Rattle.std.proofs.lemmas.Bool.Decides.{nat_tests}
use Rattle.std.proofs.lemmas.Nat.{div-mul-add, mod-mul-add, div-add-mod'}
use Rattle.std.proofs.Math.Nat.{mod-lt}
use Rattle.ics_fields.specs.Sets.{contains, contains_wide, IsNextIn}
use Rattle.ics_fields.proofs.SetLemmas.{wide_past}
use Rattle.ics_period.specs.declared.recurrence_period.RecurrencePeriod.{RecurrencePeriod}
use Rattle.ics_period.specs.Ranks.{count}
use Rattle.ics_period.specs.RecurrencePeriods.{has_minute, has_second, has_day, holds, IsNth}
use Rattle.ics_period.proofs.ScanLemmas.{day_before}
use Rattle.ics_period.proofs.Counts.{count-same, count-add, count-from, count-block, count-product, count_none_at, count_one}
use Rattle.ics_period.proofs.RankLemmas.{count_flat}
use Rattle.ics_fields.specs.Locals.{calendar_end}

-- how many pass before the t-th of block d: the blocks before it, and what passes in it
pub count-place : (d b t : ℕ) (p q : ℕ → Bool) → t ≤ b → count (d * b + t) (λ m. p (m / b) && q (m % b)) ≡ count d p * count b q + cond (p d) 1 0 * count t q
count-place d b t p q h =
    omega (arith, count-add (d * b) t (λ m. p (m / b) && q (m % b)), count-product d b p q, count-block d b t p q h)

module _ (n b : ℕ) (p q : ℕ → Bool) (some : 0 < b) where
  count-at : count n (λ m. p (m / b) && q (m % b)) ≡ count (n / b) p * count b q + cond (p (n / b)) 1 0 * count (n % b) q
  count-at = let l : n % b < b = mod-lt n some in rw (div-add-mod' n b) at (count-place (n / b) b (n % b) p q (omega (arith, l)))

  -- where the block of n passes, and where it does not
  pub count_taken : {blocks size rest : ℕ} → p (n / b) ≡ true → blocks ≡ count (n / b) p → size ≡ count b q → rest ≡ count (n % b) q
      → blocks * size + rest ≡ count n (λ m. p (m / b) && q (m % b))
  count_taken e eb es er = grind (arith, nat_tests, count-at, count_one)

  pub count_left : {blocks size : ℕ} → p (n / b) ≡ false → blocks ≡ count (n / b) p → size ≡ count b q
      → blocks * size ≡ count n (λ m. p (m / b) && q (m % b))
  count_left e eb es = grind (arith, nat_tests, count-at, count_none_at)

pub count_zero : (p : ℕ → Bool) → 0 ≡ count 0 p
unfolding count
count_zero p = refl

-- the size of a product
pub clock_size : (p : RecurrencePeriod) → count 86_400 (has_second p)
    ≡ count 24 (contains p.hours) * count 60 (contains p.minutes) * count 60 (contains p.seconds)
clock_size p = count-product 1_440 60 (has_minute p.hours p.minutes) (contains p.seconds)
    ∙ ap (λ x. x * count 60 (contains p.seconds)) (count-product 24 60 (contains p.hours) (contains p.minutes))

pub whole_size : (p : RecurrencePeriod) → count calendar_end (holds p) ≡ count 3_652_425 (has_day p) * count 86_400 (has_second p)
whole_size p = count-product 3_652_425 86_400 (has_day p) (has_second p)

-- its days, by their places in the set
day_at : (p : RecurrencePeriod) (k : ℕ) → has_day p (p.first_day + k) ≡ contains_wide p.days k
day_at p k = grind (arith, nat_tests)

pub days_from_first : (p : RecurrencePeriod) (n : ℕ) → count (p.first_day + n) (has_day p) ≡ count n (contains_wide p.days)
days_from_first p n = count-from p.first_day n (has_day p) (day_before p)
    ∙ count-same n (λ k. has_day p (p.first_day + k)) (contains_wide p.days) (λ k l. day_at p k)

-- a product has no day past the 384 of its set
day_past : (p : RecurrencePeriod) (m : ℕ) → p.first_day + 384 ≤ m → has_day p m ≡ false
day_past p m h = and_right (nat_le p.first_day m) (contains_wide p.days (m - p.first_day)) (wide_past p.days (m - p.first_day) (omega arith))

pub days_in_all : (p : RecurrencePeriod) → p.first_day ≤ 3_600_000 → count 3_652_425 (has_day p) ≡ count 384 (contains_wide p.days)
days_in_all p h = count_flat (p.first_day + 384) 3_652_425 (has_day p) (omega (arith, h)) (λ m l u. day_past p m l) ∙ days_from_first p 384

-- its size by the sizes of its sets
pub product_size : (p : RecurrencePeriod) → p.first_day ≤ 3_600_000 →
    count calendar_end (holds p) ≡ count 384 (contains_wide p.days) * count 86_400 (has_second p)
product_size p h = whole_size p ∙ ap (λ x. x * count 86_400 (has_second p)) (days_in_all p h)

-- its days by their number
pub nth_of_days : (p : RecurrencePeriod) (k n : ℕ) → IsNth (contains_wide p.days) k n → IsNth (has_day p) k (p.first_day + n)
nth_of_days p k n nth = record { passes = day_at p n ∙ nth.passes; before = days_from_first p n ∙ nth.before }

-- the days before one
pub days_before : (p : RecurrencePeriod) (day skipped : ℕ) → skipped ≡ min (day - p.first_day) 384 →
    count skipped (contains_wide p.days) ≡ count day (has_day p)
days_before p day skipped e =
    grind (arith, cases_lt, count_flat, day_before, day_past, days_from_first p skipped)

-- the k-th number of a product, by dividing by the size of a block
pub nth-product : (b : ℕ) {s : ℕ} (k : ℕ) {hi lo : ℕ} {p q : ℕ → Bool} → s ≡ count b q → lo < b → IsNth p (k / s) hi → IsNth q (k % s) lo
    → IsNth (λ n. p (n / b) && q (n % b)) k (hi * b + lo)
nth-product b k es l high low = grind (arith, nat_tests, count-place, count_one, div-add-mod', div-mul-add, mod-mul-add)

-- nothing stands past the calendar
pub holds_past : (p : RecurrencePeriod) → p.first_day ≤ 3_600_000 → (m : ℕ) → calendar_end ≤ m → holds p m ≡ false
holds_past p h m late = ap (λ x. x && has_second p (m % 86_400)) (day_past p (m / 86_400) (omega arith))

pub next_small : (p : RecurrencePeriod) (n : ℕ) (o : Option ℕ) → p.first_day ≤ 3_600_000 → IsNextIn (holds p) n o → IfSome o (λ m. m < calendar_end)
next_small p n o h l = grind (arith, nat_tests, cases_lt, holds_past)
