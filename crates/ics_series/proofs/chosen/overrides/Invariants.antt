use Rattle.std.proofs.Common.{◌≡◌, ◌++◌, map, drop, filter}
use Rattle.ics_series.specs.Versions.{is_override, seen}
use Rattle.ics_series.proofs.chosen.overrides.Given as goal

abbrev pub invariant-loop-version : goal.invariant-loop-version
invariant-loop-version l =
    map seen l.overrides.items ++ filter is_override (map seen (drop l.version-index l.chosen)) ≡ filter is_override (map seen l.chosen)
