use Rattle.std.proofs.Common.{◌≡◌, take}
use Rattle.ics_values.proofs.observance.are_same_observances.Given as goal

abbrev pub invariant-loop-k : goal.invariant-loop-k
invariant-loop-k l = take l.k l.observances ≡ take l.k l.others
