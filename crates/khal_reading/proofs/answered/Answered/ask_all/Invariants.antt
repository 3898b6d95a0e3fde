use Rattle.std.proofs.Common.{List, take}
use Rattle.khal_reading.specs.Asked.{Asked}
use Rattle.khal_reading.specs.Inner.Learned.{Knows, Learns}
use Rattle.khal_reading.proofs.answered.Answered.ask_all.Given as goal

-- the names before are asked for
abbrev pub invariant-loop-name : goal.invariant-loop-name
invariant-loop-name g l =
    (asked : List Asked) → Knows asked l.fn.self → Learns g.Z.ZoneSource.finds asked (take l.name-index l.names) l.fn.zones l.zones l.self
