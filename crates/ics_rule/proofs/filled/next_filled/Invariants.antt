use Rattle.std.proofs.Common.{◌≡◌, ℕ, ◌<◌, ◌≤◌, ◌-◌, ◌*◌}
use Rattle.jiff_core.specs.Weekday.{monday_zero}
use Rattle.ics_period.specs.PeriodNumbers.{rules_end}
use Rattle.ics_rule.specs.Inner.Filled.{first_day, IsPoor}
use Rattle.ics_rule.proofs.filled.next_filled.Given as goal

abbrev pub invariant-loop-number : goal.invariant-loop-number
invariant-loop-number l = record {
  low : l.begin ≤ l.number;
  high : l.number ≤ l.last;
  day : l.day ≡ first_day l.parts.frequency (monday_zero l.parts.week_start) l.number;
  early : l.day * 86_400 ≤ rules_end;
  poor : (x : ℕ) → l.begin ≤ x → x < l.number → IsPoor l.parts l.least x;
}

abbrev pub decreases-loop-number : goal.decreases-loop-number
decreases-loop-number l = l.last - l.number
