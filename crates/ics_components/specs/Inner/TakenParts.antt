-- The first round over the next bytes of a file.
use Rattle.std.specs.Prelude.{◌≡◌, ◌≢◌, ℕ, ◌+◌, ◌≤◌, List, [], ◌++◌, length, Option, Some, None, Result, Ok, Err}
use Rattle.ics_text.specs.Parts.{Part, last_number, lines_left}
use Rattle.ics_text.specs.Unfolded.{Line, without_mark}
use Rattle.ics_components.specs.declared.fault.Fault.{Fault}
use Rattle.ics_components.specs.declared.fault.FileFault.{FileFault}
use Rattle.ics_components.specs.declared.fault.FileFault.TheVariants.{Memory}
use Rattle.ics_components.specs.declared.fault.FileFault.TheVariants as file_fault
use Rattle.ics_components.specs.declared.file_reader.FileReader.{FileReader}
use Rattle.ics_components.specs.declared.taken_lines.Place.{Place}
use Rattle.ics_components.specs.declared.taken_lines.Place.TheVariants.{Start, Behind, At}
use Rattle.ics_components.specs.declared.taken_lines.TakenLines.{TakenLines}
use Rattle.ics_components.specs.FileReading.{LastFits, breaks_at, says_then, says_with}
use Rattle.ics_components.specs.KeptPass.{pass_on}
use Rattle.ics_components.specs.ParsedFileSeen.{ParsedFileSeen}

-- The numbers of the lines fit, where so many bytes follow.
pub record HasRoom (taken : TakenLines) (len : ℕ) : Type 0 where
  pub bytes : breaks_at taken.place + len ≤ 16_777_216
  pub last : LastFits taken.place taken.round

-- the next bytes at a place where no fault is found yet
abbrev pub part_at : Place → List ℕ → Part
part_at Start bytes = record { breaks = 0; bytes = without_mark bytes }
part_at (Behind breaks) bytes = record { breaks = breaks; bytes = bytes }
part_at (At fault) bytes = record { breaks = 0; bytes = bytes }

-- The lines of the next bytes are to be taken, or the first fault stands before them.
abbrev pub BeginsPart : Result Part FileFault → List ℕ → TakenLines → Type 0
BeginsPart (Ok part) bytes taken =
    (part ≡ part_at taken.place bytes) × ((fault : Fault) → taken.place ≢ At fault)
    × ((more : List Line) → says_with taken bytes more ≡ pass_on taken.keep taken.round (lines_left part ++ more))
BeginsPart (Err Memory) bytes taken = Unit {0}
BeginsPart (Err (file_fault.At number kind)) bytes taken =
    (more : List Line) → says_with taken bytes more ≡ Err (record { line = number; kind = kind })

-- The lines of the next bytes are taken, up to the first that has a fault.
abbrev pub SaysOver : Result ℕ FileFault → List ℕ → TakenLines → TakenLines → Type 0
SaysOver (Ok breaks) bytes old new =
    (new.keep ≡ old.keep) × (breaks + 1 ≡ last_number (part_at old.place bytes))
    × ((more : List Line) → says_with old bytes more ≡ pass_on old.keep new.round more)
SaysOver (Err Memory) bytes old new = Unit {0}
SaysOver (Err (file_fault.At number kind)) bytes old new =
    (more : List Line) → says_with old bytes more ≡ Err (record { line = number; kind = kind })

-- THE READER: the bytes that it counts as read but has not taken, and the bytes of a piece that are left.
abbrev pub held_by : FileReader → ℕ
held_by reader = breaks_at reader.taken.place + length reader.carry.items

abbrev pub says_of : FileReader → List ℕ → Result ParsedFileSeen Fault
says_of reader more = says_then reader.taken (reader.carry.items ++ more)

-- the line that is carried is taken and these bytes are left, or all of the piece is carried
abbrev pub EndsLine : List ℕ → FileReader → FileReader → Option (List ℕ) → Type 0
EndsLine piece old new None = ((more : List ℕ) → says_of old (piece ++ more) ≡ says_of new more) × (held_by new ≡ held_by old + length piece)
EndsLine piece old new (Some rest) =
    ((more : List ℕ) → says_of old (piece ++ more) ≡ says_of new (rest ++ more)) × (new.carry.items ≡ [])
    × (held_by new + length rest ≤ held_by old + length piece)
