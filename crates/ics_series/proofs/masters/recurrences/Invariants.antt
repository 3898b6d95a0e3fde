use Rattle.std.proofs.Common.{◌≡◌, ◌++◌, drop, map}
use Rattle.std.specs.List.{filter_map}
use Rattle.ics_series.specs.Versions.{seen, Label}
use Rattle.ics_series.proofs.masters.recurrences.Given as goal

abbrev pub invariant-loop-version : goal.invariant-loop-version
invariant-loop-version l =
    l.instants.items ++ filter_map (λ (v : Label). v.subject.recurrence) (map seen (drop l.version-index l.versions))
    ≡ filter_map (λ (v : Label). v.subject.recurrence) (map seen l.versions)
