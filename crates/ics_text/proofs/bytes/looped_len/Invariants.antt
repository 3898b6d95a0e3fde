use Rattle.std.proofs.Common.{◌≡◌, ◌+◌, drop}
use Rattle.std.specs.List.{prefix_len}
use Rattle.ics_text.proofs.bytes.looped_len.Given as goal

abbrev pub invariant-loop-i : goal.invariant-loop-i
invariant-loop-i g l = prefix_len (g.S.ByteSet.has l.set) l.text ≡ l.i + prefix_len (g.S.ByteSet.has l.set) (drop l.i l.text)
