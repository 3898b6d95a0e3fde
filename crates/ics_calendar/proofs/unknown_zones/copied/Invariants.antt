use Rattle.std.proofs.Common.{◌≡◌, map, take}
use Rattle.ics_calendar.proofs.unknown_zones.copied.Given as goal

abbrev pub invariant-loop-name : goal.invariant-loop-name
invariant-loop-name l = map (λ name. name.items) l.copies.items ≡ take l.name-index l.names
