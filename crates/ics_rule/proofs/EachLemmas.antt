-- What each period of a day or less has that a rule lets in.
use Rattle.std.proofs.Common.{◌≡◌, ℕ, zero, suc, ◌+◌, ◌*◌, ◌/◌, ◌%◌, ◌<◌, ◌≤◌, Bool, true, false, ◌&&◌, ◌||◌, refl, sym, ap, ◌∙◌, cond, arith}
use Rattle.std.proofs.lemmas.Bool.{eq-eqb}
use Rattle.std.proofs.Math.Nat.{mul-le-mul_right, mul_comm, add-mul}
use Rattle.jiff_core.specs.Weekday.{monday_zero}
use Rattle.ics_fields.specs.declared.frequency.Frequency.{Frequency}
use Rattle.ics_fields.specs.declared.frequency.Frequency.TheVariants.{Secondly, Minutely, Hourly, Daily}
use Rattle.ics_fields.specs.Ordinals.{lists_none_wide}
use Rattle.ics_period.specs.declared.effective_rule.EffectiveRule.{EffectiveRule}
use Rattle.ics_period.specs.PeriodNumbers.{period}
use Rattle.ics_period.specs.Candidates.{lets, lets_date, lets_clock, is_stepped, period_in}
use Rattle.ics_period.specs.Ranks.{count, is_chosen}
use Rattle.ics_period.specs.RecurrencePeriods.{first_local}
use Rattle.ics_rule.specs.Inner.Rounds.{seconds_of, chosen_to}
use Rattle.ics_rule.specs.Inner.OpenPeriods.{per_day, lets_own, lets_within, is_open_period, size_of_open, chosen_of_size, chosen_in_open}
use Rattle.ics_period.proofs.Counts.{count-same, count-suc, count-all, count-product, count_every, count_most}
use Rattle.ics_period.proofs.ProductCounts.{count_zero}
use Rattle.ics_rule.proofs.SizeLemmas.{let_at, longest, counted, chosen_adds}
use Rattle.ics_fields.specs.Locals.{calendar_end}
use Rattle.ics_period.proofs.Tests.{and_assoc}

-- the clock is a period's own and what is within it
pub clock_split : (f : Frequency) (q : EffectiveRule) (n : ℕ) → lets_clock q n ≡ (lets_own f q n && lets_within f q n)
clock_split f q n = grind arith

-- a part that is not asked lets all in, and else numbers that are one are let in alike
part_alike : (b : Bool) (s m n : ℕ) → (b ≡ false → m ≡ n) → (b || lets s m) ≡ (b || lets s n)
part_alike b s m n same = grind arith

-- a period's locals, by their place in it
module _ (q : EffectiveRule) (p k : ℕ) where
  pub period_at : (f : Frequency) (w : ℕ) → 0 < seconds_of f → seconds_of f ≤ 86_400 → k < seconds_of f → period f w (p * seconds_of f + k) ≡ p
  period_at f w h u l = grind arith

  day_at : (f : Frequency) → 0 < seconds_of f → seconds_of f ≤ 86_400 → k < seconds_of f → (p * seconds_of f + k) / 86_400 ≡ p / per_day f
  day_at f h u l = grind arith

  own_at : (f : Frequency) → 0 < seconds_of f → seconds_of f ≤ 86_400 → k < seconds_of f → lets_own f q (p * seconds_of f + k) ≡ lets_own f q (p * seconds_of f)
  own_at f h u l = grind (arith, part_alike)

  pub within_at : (f : Frequency) → 0 < seconds_of f → seconds_of f ≤ 86_400 → k < seconds_of f → lets_within f q (p * seconds_of f + k) ≡ lets_within f q k
  within_at f h u l = grind (arith, part_alike)

pub in_period : (f : Frequency) (w n : ℕ) → 0 < seconds_of f → seconds_of f ≤ 86_400 → (period f w n * seconds_of f ≤ n)
    × (n < period f w n * seconds_of f + seconds_of f)
in_period f w n h u = grind arith

first_at : (f : Frequency) (w p : ℕ) → 0 < seconds_of f → seconds_of f ≤ 86_400 → first_local f w p ≡ p * seconds_of f
first_at f w p h l = grind arith

-- how many locals that is
module _ (q : EffectiveRule) where
  pub size_secondly : 1 ≡ count 1 (lets_within Secondly q)
  size_secondly = sym (count-same 1 (lets_within Secondly q) (λ k. true) (λ k l. refl) ∙ count_every 1)

  pub size_minutely : count 60 (lets_within Minutely q) ≡ count 60 (lets q.seconds)
  size_minutely = count-same 60 (lets_within Minutely q) (lets q.seconds) (λ k l. grind arith)

  pub size_hourly : count 3_600 (lets_within Hourly q) ≡ count 60 (lets q.minutes) * count 60 (lets q.seconds)
  size_hourly =
      count-same 3_600 (lets_within Hourly q) (λ k. lets q.minutes (k / 60) && lets q.seconds (k % 60)) (λ k l. grind arith)
      ∙ count-product 60 60 (lets q.minutes) (lets q.seconds)

  pub size_daily : count 86_400 (lets_within Daily q) ≡ count 24 (lets q.hours) * count 60 (lets q.minutes) * count 60 (lets q.seconds)
  size_daily =
      count-same 86_400 (lets_within Daily q) (λ k. (lets q.hours (k / 60 / 60) && lets q.minutes (k / 60 % 60)) && lets q.seconds (k % 60))
      (λ k l. grind arith) ∙ count-product 1_440 60 (λ m. lets q.hours (m / 60) && lets q.minutes (m % 60)) (lets q.seconds)
      ∙ ap (λ x. x * count 60 (lets q.seconds)) (count-product 24 60 (lets q.hours) (lets q.minutes))

module _ (q : EffectiveRule) (start : ℕ) (fine : 0 < seconds_of q.frequency) (unit : seconds_of q.frequency ≤ 86_400) where
  abbrev u : ℕ
  u = seconds_of q.frequency

  abbrev within : ℕ → Bool
  within = lets_within q.frequency q

  abbrev is_open : ℕ → Bool
  is_open = is_open_period q (period_in q start)

  -- a day and the hour, minute and second of a period are let in
  abbrev lets_some : ℕ → Bool
  lets_some p = lets_date q (p / per_day q.frequency) && lets_own q.frequency q (p * u)

  spans : (p : ℕ) → first_local q.frequency (monday_zero q.week_start) p + u ≡ first_local q.frequency (monday_zero q.week_start) (suc p)
  spans p = rw (first_at q.frequency (monday_zero q.week_start) p fine unit, first_at q.frequency (monday_zero q.week_start) (suc p) fine unit) (omega arith)

  let_in_at : (p k : ℕ) → k < u → let_at q p k ≡ (lets_some p && within k)
  let_in_at p k l =
      rw (
        first_at q.frequency (monday_zero q.week_start) p fine unit,
        period_at q p k q.frequency (monday_zero q.week_start) fine unit l,
        day_at q p k q.frequency fine unit l,
        clock_split q.frequency q (p * u + k),
        own_at q p k q.frequency fine unit l,
        within_at q p k q.frequency fine unit l,
        eq-eqb p p refl,
      )
      (sym (and_assoc (lets_date q (p / per_day q.frequency)) (lets_own q.frequency q (p * u)) (within k)))

  size_at : (p : ℕ) → count longest (let_at q p) ≡ cond (lets_some p) 1 0 * size_of_open q
  size_at p = counted q start p u (spans p) ∙ count-same u (let_at q p) (λ k. lets_some p && within k) (let_in_at p) ∙ count-all (lets_some p) u within

  -- what is chosen in whole periods
  open_adds : (p : ℕ) → suc p * u ≤ calendar_end → chosen_to q start (suc p) ≡ chosen_to q start p + cond (is_open p) 1 0 * chosen_in_open q
  open_adds p top =
      chosen_adds q start p u (spans p) (rw (first_at q.frequency (monday_zero q.week_start) p fine unit) (omega (arith, top)))
      ∙ rw (size_at p) (sized (is_stepped (period_in q start) q.interval p) (lets_some p) (lists_none_wide q.positions))
    where
      sized : (s b c : Bool) → chosen_to q start p + cond s (chosen_of_size q c (cond b 1 0 * size_of_open q)) 0
          ≡ chosen_to q start p + cond (s && b) 1 0 * chosen_of_size q c (size_of_open q)
      sized s b c = grind (arith, count_most)

  pub total_open : (p : ℕ) → p * u ≤ calendar_end → chosen_to q start p ≡ count p is_open * chosen_in_open q
  total_open zero top = let most = count_most (0 * u) (is_chosen q start) in
      rw (first_at q.frequency (monday_zero q.week_start) 0 fine unit) (omega (arith, most, ap (λ x. x * chosen_in_open q) (count_zero is_open)))
  total_open (suc p) top = grind (arith, add-mul, count-suc p is_open, open_adds p top, total_open p)

  -- from one period to another
  pub total_between : {begin target counted each : ℕ} (number : ℕ) → each ≡ chosen_in_open q → number + count begin is_open ≡ count target is_open
      → target * u ≤ calendar_end → begin ≤ target → counted ≡ chosen_to q start begin → counted + each * number ≡ chosen_to q start target
  total_between number ee en top up ec = grind (arith, mul-le-mul_right, mul_comm, total_open)

-- of the frequencies whose periods are a day or less the day is the one that is no part of a day
pub daily : (f : Frequency) → 0 < seconds_of f → seconds_of f ≤ 86_400 → (f ≡ Secondly → ⊥) → (f ≡ Minutely → ⊥) → (f ≡ Hourly → ⊥) → f ≡ Daily
daily f h l g w v = grind arith
