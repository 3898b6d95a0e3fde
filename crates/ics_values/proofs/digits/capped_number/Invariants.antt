use Rattle.std.proofs.Common.{◌≡◌, min, take}
use Rattle.ics_values.specs.Digits.{number_of}
use Rattle.ics_values.proofs.digits.capped_number.Given as goal

abbrev pub invariant-loop-b : goal.invariant-loop-b
invariant-loop-b l = l.n ≡ min (number_of (take l.b-index l.digits)) 4_294_967_296
