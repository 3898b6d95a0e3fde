-- Whole rounds of the calendar are rounds of each rule.
use Rattle.std.proofs.Common.{◌≡◌, ℕ, ◌+◌, ◌-◌, ◌*◌, ◌/◌, ◌%◌, ◌≤◌, Option, Some, None, MatchOption, sym, ap, ◌∙◌, arith}
use Rattle.std.proofs.lemmas.Nat.{div-add-mod'}
use Rattle.std.proofs.Math.Nat.{mul_comm}
use Rattle.jiff_core.specs.Weekday.{monday_zero}
use Rattle.ics_fields.specs.declared.frequency.Frequency.{Frequency}
use Rattle.ics_fields.specs.declared.frequency.Frequency.TheVariants.{Monthly, Yearly}
use Rattle.ics_period.specs.declared.effective_rule.EffectiveRule.{EffectiveRule}
use Rattle.ics_period.specs.PeriodNumbers.{period, day_of}
use Rattle.ics_period.specs.Candidates.{lets_date, is_stepped, period_in}
use Rattle.ics_period.specs.RecurrencePeriods.{first_local}
use Rattle.ics_rule.specs.Inner.Rounds.{calendar_periods, IsCalendarRound, IsRound}
use Rattle.ics_rule.proofs.RoundLemmas.{clock_same, let_in_alike, step_repeats}
use Rattle.ics_period.proofs.Tests.{positive}
use Rattle.ics_period.proofs.CycleLemmas.{years_again, months_again, year_again, month_again, date_again}

period_again : (f : Frequency) (w n k : ℕ) → period f w (n + k * 12_622_780_800) ≡ period f w n + k * calendar_periods f
period_again Monthly w n k = grind (arith, year_again k (n / 86_400), month_again k (n / 86_400))
period_again Yearly w n k = grind (arith, year_again k (n / 86_400))
period_again f w n k = omega arith

pub first_again : (f : Frequency) (w p k : ℕ) → 2 ≤ p → first_local f w (p + k * calendar_periods f) ≡ first_local f w p + k * 12_622_780_800
first_again Monthly w p k h = grind (arith, years_again k ((p - 1) / 12), months_again k ((p - 1) / 12) ((p - 1) % 12))
first_again Yearly w p k h = grind (arith, years_again k p)
first_again f w p k h = omega arith

pub some_periods : (f : Frequency) → 1 ≤ calendar_periods f
some_periods f = grind arith

-- so many periods are whole steps
pub calendar_step : (q : EffectiveRule) (periods : ℕ) → IsCalendarRound q periods → (first p : ℕ) → first ≤ p →
    is_stepped first q.interval (p + periods) ≡ is_stepped first q.interval p
calendar_step q periods round first p l =
    grind (arith, div-add-mod' periods q.interval, mul_comm q.interval (periods / q.interval), step_repeats q.interval (periods / q.interval) first p)

pub calendar_is : (q : EffectiveRule) (periods : ℕ) (round : IsCalendarRound q periods) → IsRound q periods (round.cycles * 12_622_780_800)
calendar_is q periods round = record {
  some = (let some = positive round.cycles (calendar_periods q.frequency) round.some (some_periods q.frequency) in omega (arith, some, round.whole));
  step = calendar_step q periods round;
  period = λ n. period_again q.frequency (monday_zero q.week_start) n round.cycles ∙ ap (λ x. period_in q n + x) (sym round.whole);
  first = λ p l. ap (λ x. first_local q.frequency (monday_zero q.week_start) (p + x)) round.whole
      ∙ first_again q.frequency (monday_zero q.week_start) p round.cycles l;
  let_in = λ n. let_in_alike q (n + round.cycles * 12_622_780_800) n
      (ap (lets_date q) (let day : (n + round.cycles * 12_622_780_800) / 86_400 ≡ n / 86_400 + 146_097 * round.cycles = omega arith in day)
      ∙ date_again q round.cycles (day_of n) round.some)
      (clock_same q (n + round.cycles * 12_622_780_800) n (omega arith) (omega arith) (omega arith));
}

pub calendar_rounds : (q : EffectiveRule) (found : Option ℕ) → MatchOption found (Unit {0}) (IsCalendarRound q)
    → MatchOption found (Unit {0}) (λ k. (s : ℕ) × IsRound q k s)
calendar_rounds q None none = tt
calendar_rounds q (Some k) round = (round.cycles * 12_622_780_800, calendar_is q k round)
