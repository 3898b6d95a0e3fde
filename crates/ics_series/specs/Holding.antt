-- The built occurrences that feeds hold, and how many periods of their rules they have looked at.
use Rattle.std.specs.Prelude.{ℕ, List, []}
use Rattle.ics_series.specs.declared.part.Part.{Part}
use Rattle.ics_series.specs.declared.part.Part.TheVariants.{Singles, Series}
use Rattle.ics_listing.specs.Entry.{Entry}
use Rattle.ics_starts.specs.RuleHolding.{rule_looked, series_holds}

-- a part holds what its series holds; occurrences of events that start once are not built before they are given
abbrev pub part_holds : Part → List Entry
part_holds (Singles s) = []
part_holds (Series s) = series_holds s.series.value.series

abbrev pub part_looked : Part → ℕ
part_looked (Singles s) = 0
part_looked (Series s) = rule_looked s.series.value.series.rule_starts
