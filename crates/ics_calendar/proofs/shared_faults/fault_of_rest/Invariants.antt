use Rattle.std.proofs.Common.{◌≡◌, take}
use Rattle.std.specs.List.{fold}
use Rattle.ics_components.specs.PartFaults.{earlier}
use Rattle.ics_calendar.specs.Inner.PartsRead.{fault_read}
use Rattle.ics_calendar.proofs.shared_faults.fault_of_rest.Given as goal

abbrev pub invariant-loop-zone : goal.invariant-loop-zone
invariant-loop-zone l = l.first ≡ fold (λ first zone. earlier first (fault_read zone.read)) l.fn.outside (take l.zone-index l.zones)
