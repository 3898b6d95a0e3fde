-- The unresolved file of a file, in which the first round finds nothing, before zone files are given, and what it says (RFC 5545, section 3.2.19).
use Rattle.std.specs.Prelude.{◌≡◌, ◌⊎◌, ℕ, true, List, [], Err, ◌<◌, length, map, Some, IfSome}
use Rattle.std.specs.List.{All, Contains}
use Rattle.ics_text.specs.Unfolded.{begins_with_fold}
use Rattle.ics_components.specs.declared.fault.Fault.{Fault}
use Rattle.ics_components.specs.declared.fault.FileFault.{FileFault}
use Rattle.ics_components.specs.FirstFault.{first_fault}
use Rattle.ics_components.specs.PlacedLines.{placed}
use Rattle.ics_components.specs.declared.fault.FileFault.TheVariants.{Memory, At}
use Rattle.ics_calendar.specs.Files.{UnresolvedSaid, file_of, wanted_names}
use Rattle.ics_calendar.specs.Settled.{unresolved_by}
use Rattle.ics_components.specs.ParsedFiles.{IsSoundCheck}
use Rattle.ics_components.specs.Sound.{IsSoundEvent}
use Rattle.ics_calendar.specs.GivenFiles.{GivenFiles}
use Rattle.ics_calendar.specs.ZoneTables.{known_by}
use Rattle.ics_components.specs.declared.deferred_check.ZoneName.{ZoneName}
use Rattle.ics_components.specs.declared.parsed_file.CalendarEvent.{CalendarEvent}
use Rattle.ics_components.specs.declared.parsed_file.LineCheck.{LineCheck}
use Rattle.ics_calendar.specs.declared.zone_table.ZoneTable.{ZoneTable}
use Rattle.ics_calendar.specs.DeferredChecks.{KnownZones}

-- an unresolved file: its table of time zones, its events, and the checks of the second round
pub record UnresolvedSeen : Type 0 where
  pub table : ZoneTable
  pub events : List CalendarEvent
  pub checks : List LineCheck

-- The index of a name is that of a zone, and names with one index are one name.
pub record IsTable (known : KnownZones) : Type 0 where
  pub below : (used : ZoneName) → IfSome (known.index used) (λ i. i < length known.zones)
  pub single : (a b : ZoneName) (i : ℕ) → known.index a ≡ Some i → known.index b ≡ Some i → a.name ≡ b.name

pub record IsSoundUnresolved (known : KnownZones) (events : List CalendarEvent) (checks : List LineCheck) : Type 0 where
  pub table : IsTable known
  pub whole : All (λ event. IsSoundEvent (Contains (map (λ w. w.check) checks)) event.calendar event.fields) events
  pub sound : All (λ w. IsSoundCheck w.check) checks

-- what it wants, and what the file is with zone files
abbrev pub unresolved_said : UnresolvedSeen → UnresolvedSaid
unresolved_said unresolved = unresolved_by (known_by unresolved.table) unresolved.events unresolved.checks

-- The first round finds this fault first, whatever zone files are given, and the file wants none. A fold at its begin comes before all others.
pub record IsFirstOf (bytes : List ℕ) (fault : Fault) : Type 0 where
  pub refused : (files : GivenFiles) → file_of files bytes ≡ Err fault
  pub unasked : wanted_names bytes ≡ []
  pub found : (begins_with_fold bytes ≡ true) ⊎ (first_fault (placed bytes) ≡ Some fault)

abbrev pub IsFaultOf : List ℕ → FileFault → Type 0
IsFaultOf file Memory = Unit {0}
IsFaultOf file (At line kind) = IsFirstOf file (record { line = line; kind = kind })
