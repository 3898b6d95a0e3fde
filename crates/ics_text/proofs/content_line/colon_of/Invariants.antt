use Rattle.std.proofs.Common.{◌≡◌, ◌≤◌, ◌-◌, length, Some}
use Rattle.ics_text.specs.Inner.Runs.{colon_behind, past}
use Rattle.ics_text.proofs.content_line.colon_of.Given as goal

abbrev pub invariant-loop-at : goal.invariant-loop-at
invariant-loop-at l = (l.at ≤ length l.text) × (colon_behind l.text ≡ past colon_behind l.text (Some l.at))

abbrev pub decreases-loop-at : goal.decreases-loop-at
decreases-loop-at l = length l.text - l.at
