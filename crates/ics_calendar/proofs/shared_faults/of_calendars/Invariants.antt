use Rattle.std.proofs.Common.{◌≡◌, ℕ, take}
use Rattle.std.specs.BTreeMap.{get}
use Rattle.std.specs.Ordering.{nat_cmp}
use Rattle.ics_calendar.specs.Inner.PartsRead.{calendar_fault}
use Rattle.ics_calendar.proofs.shared_faults.of_calendars.Given as goal

abbrev pub invariant-loop-pair : goal.invariant-loop-pair
invariant-loop-pair l = (calendar : ℕ) → get nat_cmp l.first calendar ≡ calendar_fault (take l.pair-index l.calendars) calendar
