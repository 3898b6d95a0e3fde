-- The locals of a day that a rule keeps.
use Rattle.std.specs.Prelude.{◌≡◌, ℕ, ◌+◌, ◌^◌, ◌<◌, ◌≤◌, ◌&&◌, true, None}
use Rattle.ics_fields.specs.Locals.{number}
use Rattle.ics_fields.specs.Ordinals.{lists_none_wide}
use Rattle.ics_fields.specs.Sets.{contains}
use Rattle.ics_period.specs.declared.effective_rule.EffectiveRule.{EffectiveRule}
use Rattle.ics_period.specs.Candidates.{lets_clock}
use Rattle.ics_period.specs.EffectiveRules.{effective, skips_hours}
use Rattle.ics_period.specs.PeriodNumbers.{hour_of, minute_of, second_of, rules_end}
use Rattle.ics_period.specs.Recurrence.{Recurrence}
use Rattle.ics_rule.specs.Kept.{is_by_until}
use Rattle.ics_rule.specs.declared.day.DayTimes.{DayTimes}

-- the times of a day that the parts of a rule let in
pub record AreTimesOf (q : EffectiveRule) (times : DayTimes) : Type 0 where
  pub let_in : (n : ℕ) → lets_clock q n
      ≡ (contains times.hours (hour_of n) && contains times.minutes (minute_of n) && contains times.seconds (second_of n))
  pub hours : times.hours < 2 ^ 24
  pub minutes : times.minutes < 2 ^ 60
  pub seconds : times.seconds < 2 ^ 60

-- neither the start nor UNTIL nor the end of the rules cuts the day that begins at a local, and neither BYSETPOS nor COUNT nor a period
-- shorter than a day leaves anything out
pub record IsWhole (r : Recurrence) (from : ℕ) : Type 0 where
  pub after : number r.start < from
  pub early : from + 86_400 ≤ rules_end
  pub until : (n : ℕ) → n < from + 86_400 → is_by_until r.kind r.parts.until n ≡ true
  pub uncounted : r.parts.count ≡ None
  pub free : lists_none_wide (effective r).positions ≡ true
  pub coarse : skips_hours (effective r).frequency ≡ true
