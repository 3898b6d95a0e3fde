use Rattle.std.proofs.Common.{◌≡◌, map, drop, bytes_eq}
use Rattle.ics_text.specs.Bytes.{upper}
use Rattle.ics_components.proofs.name.is_called.Given as goal

abbrev pub invariant-loop-i : goal.invariant-loop-i
invariant-loop-i l = bytes_eq (map upper l.name) (map upper l.other) ≡ bytes_eq (map upper (drop l.i l.name)) (map upper (drop l.i l.other))
