use Rattle.std.proofs.Common.{◌≡◌, ◌++◌, map, drop}
use Rattle.khal_reading.specs.Errors.{lines_of}
use Rattle.khal_reading.specs.Inner.Outcomes.{refusal_of}
use Rattle.khal_reading.proofs.refusal.add_refusal_lines.Given as goal

-- what is added so far, and the lines of the refusals left, are what was there and the lines of all
abbrev pub invariant-loop-refusal : goal.invariant-loop-refusal
invariant-loop-refusal l =
    l.text.items ++ lines_of l.name (map refusal_of (drop l.refusal-index l.refusals)) ≡ l.fn.text.items ++ lines_of l.name (map refusal_of l.refusals)
