use Rattle.std.proofs.Common.{◌≡◌, take}
use Rattle.ics_calendar.proofs.file_parts.copied_zones.Given as goal

abbrev pub invariant-loop-zone : goal.invariant-loop-zone
invariant-loop-zone l = l.copies.items ≡ take l.zone-index l.zones
