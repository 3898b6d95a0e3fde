use Rattle.std.proofs.Common.{◌≡◌, true, ◌+◌, ◌-◌, ◌*◌, min}
use Rattle.ics_period.specs.Candidates.{is_stepped}
use Rattle.ics_period.specs.Ranks.{count}
use Rattle.ics_rule.specs.Inner.OpenPeriods.{per_day, is_timely_on}
use Rattle.ics_rule.proofs.each_day.steps_of_rounds.Given as goal

-- the periods of the days before one that follows by whole rounds are counted
abbrev pub invariant-loop-day : goal.invariant-loop-day
invariant-loop-day l = record {
  day : is_stepped l.from 146_097 l.day ≡ true;
  passed : l.total + count (l.from * per_day l.search.parts.now.frequency)
      (is_timely_on l.search.parts.now l.search.first (is_stepped l.from 146_097))
      ≡ count (min l.day l.before * per_day l.search.parts.now.frequency)
      (is_timely_on l.search.parts.now l.search.first (is_stepped l.from 146_097));
}

abbrev pub decreases-loop-day : goal.decreases-loop-day
decreases-loop-day l = l.before - l.day
