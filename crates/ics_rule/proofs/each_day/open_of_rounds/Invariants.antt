use Rattle.std.proofs.Common.{◌≡◌, ◌-◌, ◌*◌, ◌≤◌}
use Rattle.ics_period.specs.NearDays.{AreNear}
use Rattle.ics_period.specs.Ranks.{count}
use Rattle.ics_rule.specs.Inner.OpenPeriods.{per_day}
use Rattle.ics_rule.proofs.OpenLemmas.{placed}
use Rattle.ics_rule.proofs.each_day.open_of_rounds.Given as goal

-- the days with places before the next are counted
abbrev pub invariant-loop-day : goal.invariant-loop-day
invariant-loop-day l = record {
  low : l.from ≤ l.day;
  placed : l.total ≡ count (l.before * per_day l.search.parts.now.frequency)
      (placed l.search.parts.now l.search.first 146_097 l.from (l.day - l.from));
  near : AreNear l.search.parts.now l.near;
}

abbrev pub decreases-loop-day : goal.decreases-loop-day
decreases-loop-day l = l.end - l.day
