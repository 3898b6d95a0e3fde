use Rattle.std.proofs.Common.{◌≡◌, ◌++◌, ℕ, length, map, drop, option_map}
use Rattle.std.specs.List.{filter_map}
use Rattle.ics_file.specs.File.{said_by}
use Rattle.ics_starts.specs.Clocks.{display_clock}
use Rattle.ics_listing.specs.Entry.{key_rank}
use Rattle.ics_series.specs.Singles.{single_at}
use Rattle.ics_starts.specs.SingleEvents.{single_entry}
use Rattle.ics_series.specs.Versions.{seen}
use Rattle.ics_series.proofs.GapLemmas.{IsLookedTo}
use Rattle.ics_series.proofs.singles.to_come.Given as goal

-- with what the versions behind those looked at give it is what all give
abbrev pub invariant-loop-place : goal.invariant-loop-place
invariant-loop-place l =
    let given = single_at (map said_by l.files) (display_clock l.display) l.window (map seen l.overrides) (option_map (λ key. key_rank key.now) l.after) in
    (next : ℕ) × IsLookedTo l.near (length l.chosen) l.place-index next
    × (map single_entry l.singles.items ++ filter_map given (map seen (drop next l.chosen)) ≡ filter_map given (map seen l.chosen))
