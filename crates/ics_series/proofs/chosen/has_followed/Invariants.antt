use Rattle.std.proofs.Common.{◌≡◌, map, drop}
use Rattle.ics_series.specs.Versions.{lasts, seen, is_same}
use Rattle.ics_series.proofs.chosen.has_followed.Given as goal

abbrev pub invariant-loop-k : goal.invariant-loop-k
invariant-loop-k l =
    lasts is_same (map seen (drop l.k l.versions)) ≡ map seen (drop l.k l.versions) → lasts is_same (map seen l.versions) ≡ map seen l.versions
