-- The months of a rule with days that each month has.
use Rattle.std.specs.Option.{is_some}
use Rattle.std.proofs.Common.{Option, ◌≡◌, ℕ, zero, suc, ◌+◌, ◌*◌, ◌/◌, ◌%◌, ◌<◌, ◌≤◌, Bool, false, ◌&&◌, pos, refl, ap, arith}
use Rattle.std.proofs.lemmas.Bool.{and_right}
use Rattle.std.proofs.lemmas.Bool.Decides.{nat_tests}
use Rattle.jiff_core.proofs.SignedLemmas.{signed_arith}
use Rattle.jiff_core.specs.Calendar.{days_in_month}
use Rattle.jiff_core.proofs.CalendarLemmas.{days_in_month_bounds, days_of_months-zero}
use Rattle.ics_fields.specs.Sets.{contains, IsNextIn}
use Rattle.ics_fields.specs.Days.{days_before_year}
use Rattle.ics_period.specs.declared.effective_rule.EffectiveRule.{EffectiveRule}
use Rattle.ics_period.specs.PeriodNumbers.{day_of}
use Rattle.ics_period.specs.Candidates.{lets, lets_date, lets_clock}
use Rattle.ics_period.specs.Ranks.{count}
use Rattle.ics_period.specs.RecurrencePeriods.{month_start}
use Rattle.ics_rule.specs.Inner.Rounds.{IsFlat}
use Rattle.ics_period.proofs.Counts.{count-same, count-add}
use Rattle.ics_period.proofs.RankLemmas.{count_flat}
use Rattle.ics_period.proofs.PeriodLemmas.{month_size}
use Rattle.ics_rule.proofs.RoundLemmas.{clock_same}
use Rattle.ics_period.proofs.DayWalkLemmas.{fields_at}
use Rattle.ics_period.proofs.MonthDays.{three_parts, goes}

-- where there is no next member, none is left
pub none_from : (test : ℕ → Bool) {n : ℕ} (o : Option ℕ) → is_some o ≡ false → IsNextIn test n o → (m : ℕ) → n ≤ m → test m ≡ false
none_from test o e next m l = grind arith

-- what a rule allows, apart from the interval
abbrev pub is_allowed : EffectiveRule → ℕ → Bool
is_allowed q n = lets_date q (day_of n) && lets_clock q n

-- how many such locals are earlier
abbrev pub allowed_before : EffectiveRule → ℕ → ℕ
allowed_before q n = count n (is_allowed q)

-- the first local of the month after so many
abbrev pub month_local : ℕ → ℕ
month_local i = month_start (suc i) * 86_400

clock_of_day : (q : EffectiveRule) (e k : ℕ) → lets_clock q (e * 86_400 + k) ≡ lets_clock q k
clock_of_day q e k = clock_same q (e * 86_400 + k) k (omega arith) (omega arith) (omega arith)

module _ (q : EffectiveRule) (flat : IsFlat q) where
  -- what is allowed in the first 28 days of a month
  abbrev in_month : ℕ → ℕ → Bool
  in_month m k = (lets q.months (m + 1) && contains q.month_days.front (k / 86_400 + 1)) && lets_clock q k

  abbrev pub month_adds : ℕ → ℕ
  month_adds m = count (28 * 86_400) (in_month m)

  date_is : (i d : ℕ) → i / 12 ≤ 9_999 → d < days_in_month (pos (i / 12)) (i % 12 + 1)
      → lets_date q (month_start (suc i) + d) ≡ (lets q.months (i % 12 + 1) && contains q.month_days.front (d + 1))
  date_is i d year inside =
      let e = month_start (suc i) + d in
      let f = fields_at e (i / 12) (i % 12 + 1) (d + 1)
      ((omega (arith, signed_arith, year), omega (arith, signed_arith, year)), (omega arith, omega arith), (omega arith, omega (arith, inside)))
      (grind arith) in
      grind (arith, nat_tests, f.month, f.month_day, goes q flat.goes, three_parts q e flat.goes)

  allowed_is : (i k : ℕ) → i / 12 ≤ 9_999 → k < days_in_month (pos (i / 12)) (i % 12 + 1) * 86_400 → is_allowed q (month_local i + k) ≡ in_month (i % 12) k
  allowed_is i k year inside =
      let day : (month_start (suc i) * 86_400 + k) / 86_400 ≡ month_start (suc i) + k / 86_400 = omega arith in
      rw (day, date_is i (k / 86_400) year (omega (arith, inside)), clock_of_day q (month_start (suc i)) k) refl

  pub month_is : (i : ℕ) → i / 12 ≤ 9_999 → allowed_before q (month_local (suc i)) ≡ allowed_before q (month_local i) + month_adds (i % 12)
  month_is i year =
      let len = days_in_month (pos (i / 12)) (i % 12 + 1) in
      let size = month_size i in
      let bounds = days_in_month_bounds (pos (i / 12)) (i % 12 + 1) in
      let next : month_local (suc i) ≡ month_local i + len * 86_400 = omega (arith, size) in
      let same = count-same (len * 86_400) (λ k. is_allowed q (month_local i + k)) (in_month (i % 12)) (λ k l. allowed_is i k year l) in
      let most = count_flat (28 * 86_400) (len * 86_400) (in_month (i % 12)) (omega (arith, bounds.1))
      (λ k l u. ap (λ x. x && lets_clock q k) (and_right (lets q.months (i % 12 + 1)) (contains q.month_days.front (k / 86_400 + 1))
      (flat.front (k / 86_400 + 1) (omega (arith, l))))) in
      rw (next, count-add (month_local i) (len * 86_400) (is_allowed q), same, most) refl

  -- the first months of a year
  abbrev months_add : ℕ → ℕ
  months_add zero = 0
  months_add (suc m) = months_add m + month_adds m

  months_are : (y m : ℕ) → y ≤ 9_999 → m ≤ 12 → allowed_before q (month_local (12 * y + m)) ≡ allowed_before q (month_local (12 * y)) + months_add m
  months_are y zero year h = let same : 12 * y + 0 ≡ 12 * y = omega arith in rw same (omega arith)
  months_are y (suc m) year h = grind (arith, month_is (12 * y + m), months_are y m)

  year_local : (y : ℕ) → month_local (12 * y) ≡ days_before_year y * 86_400
  year_local y = let none = days_of_months-zero (pos y) in grind arith

  pub year_is : (y : ℕ) → y ≤ 9_999 → allowed_before q (days_before_year (suc y) * 86_400) ≡ allowed_before q (days_before_year y * 86_400) + months_add 12
  year_is y h =
      let next : 12 * suc y ≡ 12 * y + 12 = omega arith in
      rw (← (year_local y), ← (year_local (suc y)), next) (months_are y 12 h (omega arith))
