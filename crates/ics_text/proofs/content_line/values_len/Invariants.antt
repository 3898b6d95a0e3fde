use Rattle.std.proofs.Common.{◌≡◌, ◌≤◌, ◌-◌, length, Some}
use Rattle.ics_text.specs.ScanSteps.{BeforeValue, AfterQuotes, colon_from}
use Rattle.ics_text.specs.Inner.Runs.{past}
use Rattle.ics_text.proofs.content_line.values_len.Given as goal

abbrev pub invariant-loop-at : goal.invariant-loop-at
invariant-loop-at l = (l.at ≤ length l.text) × (colon_from l.text BeforeValue ≡ past (λ rest. colon_from rest AfterQuotes) l.text (Some l.at))

abbrev pub decreases-loop-at : goal.decreases-loop-at
decreases-loop-at l = length l.text - l.at
