use Rattle.std.proofs.Common.{All, take}
use Rattle.khal_reading.proofs.ShownLemmas.{IsPrinted}
use Rattle.khal_reading.proofs.shown.is_plain.Given as goal

-- the bytes so far are printed ASCII
abbrev pub invariant-loop-byte : goal.invariant-loop-byte
invariant-loop-byte l = All IsPrinted (take l.byte-index l.fn.bytes)
