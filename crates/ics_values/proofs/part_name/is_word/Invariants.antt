use Rattle.std.proofs.Common.{◌≡◌, map, drop, bytes_eq}
use Rattle.ics_values.specs.Digits.{upper as upper_of}
use Rattle.ics_values.proofs.part_name.is_word.Given as goal

abbrev pub invariant-loop-i : goal.invariant-loop-i
invariant-loop-i l = bytes_eq (map upper_of l.text) l.word ≡ bytes_eq (map upper_of (drop l.i l.text)) (drop l.i l.word)
