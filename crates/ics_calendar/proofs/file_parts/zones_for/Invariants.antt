use Rattle.std.proofs.Common.{◌≡◌, ◌++◌}
use Rattle.ics_calendar.specs.Inner.SoundParts.{zones_for}
use Rattle.ics_calendar.proofs.file_parts.zones_for.Given as goal

abbrev pub invariant-loop-zone : goal.invariant-loop-zone
invariant-loop-zone l = l.named.items ++ zones_for l.events l.zone-iterator.rest.items ≡ zones_for l.events l.fn.zones.items
