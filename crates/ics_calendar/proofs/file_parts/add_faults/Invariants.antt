use Rattle.std.proofs.Common.{◌≡◌, take}
use Rattle.std.specs.BTreeSet.{insert_key}
use Rattle.std.specs.List.{flat_map, fold}
use Rattle.ics_calendar.specs.Parts.{fault_cmp}
use Rattle.ics_calendar.specs.Inner.SoundParts.{listed}
use Rattle.ics_calendar.proofs.file_parts.add_faults.Given as goal

abbrev pub invariant-loop-first : goal.invariant-loop-first
invariant-loop-first l = l.named.keys ≡ fold (insert_key fault_cmp) l.fn.named.keys (flat_map listed (take l.first-index l.faults))
