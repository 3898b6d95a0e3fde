use Rattle.std.proofs.Common.{◌≡◌, ◌||◌, take}
use Rattle.std.specs.BTreeSet.{contains}
use Rattle.std.specs.List.{list_any}
use Rattle.ics_components.specs.declared.deferred_check.ZoneName.{ZoneName}
use Rattle.ics_calendar.specs.DeferredChecks.{is_same}
use Rattle.ics_calendar.specs.ZoneTables.{name_cmp}
use Rattle.ics_calendar.proofs.file_parts.add_zones.Given as goal

abbrev pub invariant-loop-zone : goal.invariant-loop-zone
invariant-loop-zone l =
    (name : ZoneName) → contains name_cmp l.used name
    ≡ contains name_cmp l.fn.used name
    || list_any (λ zone. is_same name (record { calendar = l.calendar; name = zone })) (take l.zone-index l.zones)
