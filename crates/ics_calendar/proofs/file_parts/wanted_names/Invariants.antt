use Rattle.std.proofs.Common.{take}
use Rattle.ics_calendar.specs.Settled.{all_unknown}
use Rattle.ics_calendar.specs.Inner.SoundParts.{checks_of, is_sound, of_parts}
use Rattle.ics_calendar.specs.Inner.UnknownNames.{AreNames}
use Rattle.ics_calendar.specs.ZoneTables.{known_by}
use Rattle.ics_calendar.proofs.file_parts.wanted_names.Given as goal

abbrev pub invariant-loop-sound : goal.invariant-loop-sound
invariant-loop-sound l =
    AreNames (all_unknown (known_by l.table).index (checks_of (of_parts (is_sound l.faults) (take l.sound-index l.events)))) l.unknown
