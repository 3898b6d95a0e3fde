use Rattle.std.proofs.Common.{◌≡◌, Some, None, take, cond}
use Rattle.std.specs.BTreeMap.{get}
use Rattle.std.specs.Option.{option_or}
use Rattle.ics_components.specs.declared.deferred_check.ZoneName.{ZoneName}
use Rattle.ics_calendar.specs.Inner.PartsRead.{has_name}
use Rattle.ics_calendar.specs.ZoneTables.{name_cmp}
use Rattle.ics_calendar.proofs.shared_faults.note_zone.Given as goal

abbrev pub invariant-loop-name : goal.invariant-loop-name
invariant-loop-name l =
    (used : ZoneName) → get name_cmp l.first used
    ≡ option_or (get name_cmp l.fn.first used) (cond (has_name l.calendar (take l.name-index l.names) used) (Some l.fault) None)
