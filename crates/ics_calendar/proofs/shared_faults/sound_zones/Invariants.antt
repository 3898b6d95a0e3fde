use Rattle.std.proofs.Common.{◌≡◌, ◌++◌}
use Rattle.ics_calendar.specs.Inner.PartsRead.{sound_zones}
use Rattle.ics_calendar.proofs.shared_faults.sound_zones.Given as goal

abbrev pub invariant-loop-zone : goal.invariant-loop-zone
invariant-loop-zone l = l.sound.items ++ sound_zones l.zone-iterator.rest.items ≡ sound_zones l.fn.zones.items
