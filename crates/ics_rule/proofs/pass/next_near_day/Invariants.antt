use Rattle.std.proofs.Common.{◌-◌, ◌≡◌, ℕ, ◌<◌, ◌≤◌, ◌+◌, false}
use Rattle.ics_period.specs.Candidates.{lets_date}
use Rattle.ics_period.specs.NearDays.{AreNear}
use Rattle.ics_rule.proofs.pass.next_near_day.Given as goal

abbrev pub invariant-loop-day : goal.invariant-loop-day
invariant-loop-day l = record {
  low : l.fn.day ≤ l.day;
  high : l.day ≤ l.end + 384;
  none : (e : ℕ) → l.fn.day ≤ e → e < l.day → lets_date l.parts e ≡ false;
  near : AreNear l.parts l.near;
}

abbrev pub decreases-loop-day : goal.decreases-loop-day
decreases-loop-day l = l.end - l.day
