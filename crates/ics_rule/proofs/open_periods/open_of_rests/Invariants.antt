use Rattle.std.proofs.Common.{◌≡◌, ◌*◌}
use Rattle.ics_period.specs.Ranks.{count}
use Rattle.ics_rule.specs.Inner.OpenPeriods.{per_day}
use Rattle.ics_rule.proofs.OpenLemmas.{placed}
use Rattle.ics_rule.proofs.open_periods.open_of_rests.Given as goal

-- the days with places before the next are counted
abbrev pub invariant-loop-j : goal.invariant-loop-j
invariant-loop-j l = l.total ≡ count (l.before * per_day l.search.parts.now.frequency)
    (placed l.search.parts.now l.search.first l.search.parts.now.interval l.from l.j)
