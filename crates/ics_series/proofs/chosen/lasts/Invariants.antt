use Rattle.std.proofs.Common.{◌≡◌, ◌++◌, map, drop}
use Rattle.ics_series.specs.Versions.{lasts, seen, is_same}
use Rattle.ics_series.proofs.chosen.lasts.Given as goal

abbrev pub invariant-loop-k : goal.invariant-loop-k
invariant-loop-k l =
    map seen l.last.items ++ lasts is_same (map seen (drop l.k l.versions)) ≡ lasts is_same (map seen l.versions)
