use Rattle.std.proofs.Common.{◌≤◌, ◌+◌, ◌*◌}
use Rattle.ics_fields.proofs.SetLemmas.{NoneBelow}
use Rattle.ics_fields.proofs.sets.WideBitSet.next_from.Given as goal

abbrev pub invariant-loop-word : goal.invariant-loop-word
invariant-loop-word l = record { none : NoneBelow l.self-inside.words l.n (l.word * 64 + l.from); past : l.n ≤ l.word * 64 + l.from }
