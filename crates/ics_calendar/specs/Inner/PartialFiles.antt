-- A file that is read as far as no zone files are needed, of which the sound parts are kept.
use Rattle.std.specs.Prelude.{◌≡◌, ℕ, true, false, List, Option, Some, None, Result, Ok, Err}
use Rattle.ics_components.specs.EventLines.{with_uids}
use Rattle.ics_components.specs.declared.fault.Fault.{Fault}
use Rattle.ics_components.specs.FirstFault.{first_fault}
use Rattle.ics_components.specs.FrontSeen.{FrontSeen}
use Rattle.ics_components.specs.Fronts.{IsFrontOf}
use Rattle.ics_components.specs.PlacedLines.{placed}
use Rattle.ics_calendar.specs.declared.partial_file.State.{State}
use Rattle.ics_calendar.specs.declared.partial_file.State.TheVariants.{Whole, Parted, Refused}
use Rattle.ics_calendar.specs.Files.{unresolved_of}
use Rattle.ics_calendar.specs.Parts.{is_parted, parts_give, parts_want}
use Rattle.ics_calendar.specs.Inner.SoundParts.{PartsSaid, PartsSeen, parts_said}
use Rattle.ics_calendar.specs.UnresolvedFiles.{IsFirstOf, UnresolvedSeen, unresolved_said}

-- what the parts of a file of that name want and give
abbrev pub parts_in : List ℕ → List ℕ → PartsSaid
parts_in name bytes = record {
  wants = parts_want (with_uids name (placed bytes));
  gives = λ files fault. parts_give files (with_uids name (placed bytes)) fault;
}

-- what is read of the parts of a file, if it has any
abbrev pub ArePartsOf : List ℕ → List ℕ → Option PartsSeen → Type 0
ArePartsOf name bytes None = is_parted bytes ≡ false
ArePartsOf name bytes (Some parts) = (is_parted bytes ≡ true) × (parts_said parts ≡ parts_in name bytes)

-- HOW FAR A FILE IS READ: the first round finds nothing, or a fault in a file that has parts, or in one that has none.
abbrev pub IsRead : List ℕ → List ℕ → State → Type 0
IsRead name bytes (Whole unresolved) = (first_fault (placed bytes) ≡ None) × (unresolved_said unresolved ≡ unresolved_of bytes)
IsRead name bytes (Parted fault parts) = IsFirstOf bytes fault × ArePartsOf name bytes (Some parts)
IsRead name bytes (Refused fault) = IsFirstOf bytes fault × ArePartsOf name bytes None

-- A FILE AS THE FIRST ROUND LEAVES IT: without a fault, or with its first fault and the events before it.
abbrev pub IsReadOrFront : List ℕ → Result UnresolvedSeen (Fault × FrontSeen) → Type 0
IsReadOrFront bytes (Ok unresolved) = (first_fault (placed bytes) ≡ None) × (unresolved_said unresolved ≡ unresolved_of bytes)
IsReadOrFront bytes (Err faulty) = IsFirstOf bytes faulty.0 × IsFrontOf (placed bytes) faulty.1
