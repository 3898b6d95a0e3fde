-- The locals of a day that a rule keeps.
use Rattle.std.proofs.Common.{◌≡◌, ℕ, ◌+◌, ◌*◌, ◌<◌, ◌≤◌, true, false, ◌&&◌, None, Option, refl, ◌∙◌, arith}
use Rattle.std.proofs.lemmas.Bool.Decides.{nat_tests}
use Rattle.jiff_core.specs.Weekday.{monday_zero}
use Rattle.ics_fields.specs.Locals.{number}
use Rattle.ics_fields.specs.Ordinals.{lists_none_wide}
use Rattle.ics_period.specs.declared.effective_rule.EffectiveRule.{EffectiveRule}
use Rattle.ics_period.specs.Recurrence.{Recurrence}
use Rattle.ics_period.specs.PeriodNumbers.{day_of}
use Rattle.ics_period.specs.EffectiveRules.{effective, skips_hours}
use Rattle.ics_period.specs.Candidates.{in_step, lets_date, lets_clock, period_in}
use Rattle.ics_rule.specs.Kept.{is_kept, KeepsDay}
use Rattle.ics_rule.specs.Inner.DaysKept.{AreTimesOf, IsWhole}
use Rattle.ics_rule.specs.Inner.Searches.{is_wanted}
use Rattle.ics_rule.specs.declared.day.DayTimes.{DayTimes}
use Rattle.ics_period.proofs.PeriodLemmas.{period_mono}
use Rattle.ics_period.proofs.Tests.{keep_true}
use Rattle.ics_rule.proofs.HourLemmas.{same_period}
use Rattle.ics_rule.proofs.NextLemmas.{kept_later}

-- the whole day is in step with its first local
same_step : (q : EffectiveRule) (start day n : ℕ) → skips_hours q.frequency ≡ true → day_of n ≡ day
    → in_step q start n ≡ in_step q start (day * 86_400)
same_step q start day n coarse at =
    let same : period_in q n ≡ period_in q (day * 86_400) =
    same_period q.frequency (monday_zero q.week_start) n (day * 86_400) coarse (omega (arith, at)) in
    rw same refl

-- each period is a multiple of the interval 1
pub each_step : (q : EffectiveRule) (start n : ℕ) → q.interval ≡ 1 → start ≤ n → in_step q start n ≡ true
each_step q start n one order =
    let up = period_mono q.frequency (monday_zero q.week_start) start n order in
    rw one (grind (arith, nat_tests))

-- without BYSETPOS each candidate is chosen, and without COUNT each that is chosen is wanted
wanted_is : (q : EffectiveRule) (start n : ℕ) (o : Option ℕ) → o ≡ None → lists_none_wide q.positions ≡ true
    → is_wanted q start o n ≡ (in_step q start n && lets_date q (day_of n) && lets_clock q n)
wanted_is q start n o none free = rw (none, free) (keep_true (in_step q start n && lets_date q (day_of n) && lets_clock q n))

module _ (r : Recurrence) (day : ℕ) (whole : IsWhole r (day * 86_400)) where
  -- of a whole day what the parts let in is kept
  kept_on : (n : ℕ) → day_of n ≡ day
      → is_kept r n ≡ (in_step (effective r) (number r.start) (day * 86_400) && lets_date (effective r) day && lets_clock (effective r) n)
  kept_on n at =
      let inside : n < day * 86_400 + 86_400 = omega (arith, at) in
      let later : number r.start < n = omega (arith, at, whole.after) in
      kept_later r n later (omega (arith, inside, whole.early))
      ∙ rw (whole.until n inside) (keep_true (is_wanted (effective r) (number r.start) r.parts.count n))
      ∙ wanted_is (effective r) (number r.start) n r.parts.count whole.uncounted whole.free
      ∙ rw (same_step (effective r) (number r.start) day n whole.coarse at, at) refl

  -- on a day that the rule lets in these are the times that its parts let in, and on others none
  module _ {q : EffectiveRule} (is : q ≡ effective r) {start : ℕ} (begins : start ≡ number r.start) where
    pub times_kept : {times : DayTimes} → (in_step q start (day * 86_400) && lets_date q day) ≡ true → AreTimesOf q times → KeepsDay r day times
    times_kept {times = times} let_in of = record {
      kept = λ n at. kept_on n at ∙ rw (← is, ← begins, let_in) (of.let_in n);
      hours = of.hours;
      minutes = of.minutes;
      seconds = of.seconds;
    }

    pub none_kept : (in_step q start (day * 86_400) && lets_date q day) ≡ false → KeepsDay r day (record { hours = 0; minutes = 0; seconds = 0 })
    none_kept out = record {
      kept = λ n at. kept_on n at ∙ rw (← is, ← begins, out) (grind (arith, nat_tests));
      hours = omega arith;
      minutes = omega arith;
      seconds = omega arith;
    }
