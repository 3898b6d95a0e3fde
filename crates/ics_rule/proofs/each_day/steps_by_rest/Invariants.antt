use Rattle.std.proofs.Common.{◌≡◌, ℕ, ◌+◌, ◌<◌, length, slice_index_or}
use Rattle.ics_rule.specs.Inner.OpenPeriods.{timely_on}
use Rattle.ics_rule.proofs.each_day.steps_by_rest.Given as goal

-- those of the days so far are counted
abbrev pub invariant-loop-j : goal.invariant-loop-j
invariant-loop-j l = record {
  length : length l.steps ≡ 4_096;
  counted : (k : ℕ) → k < l.j → slice_index_or l.steps k 0 ≡ timely_on l.search.parts.now l.search.first (l.from + k);
}
