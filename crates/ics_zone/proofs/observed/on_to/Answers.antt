use Rattle.std.proofs.Common.{arith}
use Rattle.std.proofs.lemmas.Int.{ints, clamps}
use Rattle.ics_zone.proofs.observed.on_to.Goals as goal

pub returns-then-has_room : goal.returns-then-has_room
returns-then-has_room c = (omega (arith, ints, clamps), omega (arith, ints, clamps))
