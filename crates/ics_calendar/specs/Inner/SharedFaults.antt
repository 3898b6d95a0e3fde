-- The first faults of what several events may need, by maps.
use Rattle.std.specs.Prelude.{◌≡◌, ℕ, List, Option}
use Rattle.std.specs.BTreeMap.{get}
use Rattle.std.specs.List.{fold}
use Rattle.std.specs.Ordering.{nat_cmp}
use Rattle.ics_components.specs.declared.deferred_check.ZoneName.{ZoneName}
use Rattle.ics_components.specs.declared.fault.Fault.{Fault}
use Rattle.ics_components.specs.PartFaults.{earlier}
use Rattle.ics_calendar.specs.declared.shared_faults.SharedFaults.{SharedFaults}
use Rattle.ics_components.specs.Parted.{PartedComponentSeen}
use Rattle.ics_calendar.specs.Inner.PartsRead.{calendar_fault, fault_read, zone_fault}
use Rattle.ics_calendar.specs.ZoneTables.{name_cmp}

-- They are those of these calendars and time zones.
pub record AreShared (calendars : List (ℕ × Fault)) (zones : List PartedComponentSeen) (shared : SharedFaults) : Type 0 where
  pub of_calendars : (calendar : ℕ) → get nat_cmp shared.calendars calendar ≡ calendar_fault calendars calendar
  pub of_zones : (used : ZoneName) → get name_cmp shared.zones used ≡ zone_fault zones used

-- the first fault of a calendar and of time zones of it
abbrev pub shared_beside : SharedFaults → ℕ → List (List ℕ) → Option Fault
shared_beside shared calendar names =
    fold (λ first name. earlier first (get name_cmp shared.zones (record { calendar = calendar; name = name }))) (get nat_cmp shared.calendars calendar) names

-- the first fault of what an event needs
abbrev pub needed_by : SharedFaults → PartedComponentSeen → Option Fault
needed_by shared event = earlier (fault_read event.read) (shared_beside shared event.calendar event.zones)
