use Rattle.std.proofs.Common.{◌≡◌, take}
use Rattle.std.specs.BTreeSet.{insert_key}
use Rattle.std.specs.List.{flat_map, fold}
use Rattle.ics_calendar.specs.Parts.{fault_cmp}
use Rattle.ics_calendar.specs.Inner.SoundParts.{faults_at}
use Rattle.ics_calendar.proofs.file_parts.add_later.Given as goal

abbrev pub invariant-loop-sound : goal.invariant-loop-sound
invariant-loop-sound l =
    l.named.keys ≡ fold (insert_key fault_cmp) l.fn.named.keys (flat_map (faults_at l.faults l.later) (take l.sound-index l.events))
