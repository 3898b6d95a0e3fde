use Rattle.std.proofs.Common.{◌≡◌, ◌+◌, ◌-◌, ◌*◌, ◌≤◌, min}
use Rattle.ics_period.specs.NearDays.{AreNear}
use Rattle.ics_period.specs.Ranks.{count}
use Rattle.ics_rule.specs.Inner.OpenPeriods.{per_day, is_open_period}
use Rattle.ics_rule.proofs.each_day.open_of_each.Given as goal

-- the periods of the days before the next are counted
abbrev pub invariant-loop-day : goal.invariant-loop-day
invariant-loop-day l = record {
  low : l.from ≤ l.day;
  passed : l.total + count (l.from * per_day l.search.parts.now.frequency) (is_open_period l.search.parts.now l.search.first)
      ≡ count (min l.day l.before * per_day l.search.parts.now.frequency) (is_open_period l.search.parts.now l.search.first);
  near : AreNear l.search.parts.now l.near;
}

abbrev pub decreases-loop-day : goal.decreases-loop-day
decreases-loop-day l = l.before - l.day
