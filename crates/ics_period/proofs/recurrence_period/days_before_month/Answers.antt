use Rattle.std.proofs.Common.{◌≡◌, ℕ, zero, suc, ◌+◌, ◌-◌, ◌*◌, ◌/◌, ◌<◌, ◌≤◌, pos, sym, ap, ◌∙◌, arith}
use Rattle.jiff_core.specs.Calendar.{days_of_months, days_in_year}
use Rattle.jiff_core.proofs.MarchLemmas.{days_of_months-late, days_in_year-leap_day}
use Rattle.jiff_core.proofs.CalendarLemmas.{days_of_months-zero}
use Rattle.ics_period.proofs.ScanLemmas.{months_more}
use Rattle.ics_period.proofs.recurrence_period.days_before_month.Goals as goal

short : (y n : ℕ) → n < 2 → 31 * n ≡ days_of_months (pos y) n
short y zero h = sym (days_of_months-zero (pos y))
short y (suc zero) h = let none = days_of_months-zero (pos y) in let more = months_more y 0 in omega (arith, none, more)
short y (suc (suc n)) h = absurd (omega (arith, h))

long : (y n : ℕ) → 2 ≤ n → n ≤ 12 → (153 * n - 304) / 5 + days_in_year (pos y) - 306 ≡ days_of_months (pos y) n
long y n low high = let late = days_of_months-late (pos y) (n + 1) (omega (arith, low)) (omega (arith, high)) in grind (arith, days_in_year-leap_day)

pub returns-then-months-lt2-clause-value : goal.returns-then-months-lt2-clause-value
returns-then-months-lt2-clause-value c = λ y h. short y c.args.months c.if-months-lt2.true

pub returns-else-months-lt2-clause-value : goal.returns-else-months-lt2-clause-value
returns-else-months-lt2-clause-value c = λ y h. ap (λ x. (153 * c.args.months - 304) / 5 + x - 306) h
    ∙ long y c.args.months c.if-months-lt2.false c.requires.months
