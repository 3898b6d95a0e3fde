-- The starts of its rule that a series holds, and how many periods of the rule it has looked at.
use Rattle.std.specs.Prelude.{ℕ, List, [], map, Option, Some, None}
use Rattle.ics_rule.specs.Cursors.{steps_of}
use Rattle.ics_starts.specs.declared.rule_starts.RuleStarts.{RuleStarts}
use Rattle.ics_starts.specs.declared.series.Series.{Series as SeriesFeed}
use Rattle.ics_listing.specs.declared.start.Start.{Start}
use Rattle.ics_listing.specs.Entry.{Entry}
use Rattle.ics_starts.specs.Meeting.{entry_from}
use Rattle.ics_starts.specs.FileZones.{clocks_in}
use Rattle.ics_starts.specs.RuleFeed.{held_in}

-- the starts of a rule that are held
abbrev pub rule_held : Option RuleStarts → List Start
rule_held None = []
rule_held (Some s) = held_in s

-- how many of its periods were looked at
abbrev pub rule_looked : Option RuleStarts → ℕ
rule_looked None = 0
rule_looked (Some s) = steps_of s.cursor

-- a series holds the occurrences at the starts of its rule that are held
abbrev pub series_holds : SeriesFeed → List Entry
series_holds s = map (λ start. entry_from (clocks_in s.zones) s.event.now start.given) (rule_held s.rule_starts)
