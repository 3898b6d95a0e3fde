use Rattle.std.proofs.Common.{◌≡◌, take}
use Rattle.std.specs.BTreeSet.{contains}
use Rattle.std.specs.List.{list_any}
use Rattle.ics_components.specs.declared.deferred_check.ZoneName.{ZoneName}
use Rattle.ics_calendar.specs.Inner.SoundParts.{names_zone}
use Rattle.ics_calendar.specs.ZoneTables.{name_cmp}
use Rattle.ics_calendar.proofs.file_parts.used_zones.Given as goal

abbrev pub invariant-loop-sound : goal.invariant-loop-sound
invariant-loop-sound l = (name : ZoneName) → contains name_cmp l.used name ≡ list_any (names_zone name) (take l.sound-index l.events)
