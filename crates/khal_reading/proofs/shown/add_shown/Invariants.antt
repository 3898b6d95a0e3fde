use Rattle.std.proofs.Common.{◌≡◌, ◌++◌, map, drop}
use Rattle.khal_reading.specs.Shown.{shown, shown_byte}
use Rattle.khal_reading.proofs.shown.add_shown.Given as goal

-- what is added so far, and what is shown of the bytes left, are what was there and what is shown of all
abbrev pub invariant-loop-byte : goal.invariant-loop-byte
invariant-loop-byte l = l.text.items ++ map shown_byte (drop l.byte-index l.byte-items) ≡ l.fn.text.items ++ shown l.fn.bytes
