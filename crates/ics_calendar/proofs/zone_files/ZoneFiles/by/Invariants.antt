use Rattle.std.proofs.Common.{◌≡◌, ℕ, List, map, drop}
use Rattle.std.specs.Option.{option_or}
use Rattle.ics_calendar.specs.GivenFiles.{files_by}
use Rattle.ics_calendar.specs.ZoneTables.{given_by}
use Rattle.ics_calendar.proofs.zone_files.ZoneFiles.by.Given as goal

-- the files so far, and then those of the pairs to come
abbrev pub invariant-loop-pair : goal.invariant-loop-pair
invariant-loop-pair l =
    (name : List ℕ) → option_or (given_by l.files name) (files_by (map (λ pair. (pair.0.items, pair.1.items)) (drop l.pair-index l.pairs)) name)
    ≡ files_by (map (λ pair. (pair.0.items, pair.1.items)) l.pairs) name
