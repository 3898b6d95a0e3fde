-- The first fault of a file: the least kind on the least line where one stands.
use Rattle.std.specs.Prelude.{◌≡◌, ◌⊎◌, ℕ, ◌+◌, Bool, true, false, List, [], ◌∷◌, ◌++◌, find, Option, Some, None, if◌then◌else◌}
pub use Rattle.ics_components.specs.declared.fault.Fault.{Fault}
use Rattle.ics_components.specs.declared.fault.FaultKind.{FaultKind}
use Rattle.ics_components.specs.declared.fault.FaultKind.TheVariants.{BadFold, NotCalendar, BadNesting}
use Rattle.ics_components.specs.PlacedLines.{Placed, Open, path_behind, beside}
use Rattle.ics_components.specs.Faults.{stands, kinds}

-- Which faults stand on a line, given the lines beside it.
abbrev pub Round : Type 0
Round = FaultKind → List Placed → Placed → Bool

-- the least fault that stands on a line, given all lines before it
abbrev pub least_on : Round → List Placed → Placed → Option FaultKind
least_on round before line = find (λ kind. round kind (beside before line) line) kinds

-- No fault stands on any of the lines, given those before them.
abbrev pub NoneStand : Round → List Placed → List Placed → Type 0
NoneStand round before [] = Unit {0}
NoneStand round before (line ∷ lines) = (least_on round before line ≡ None) × NoneStand round (before ++ line ∷ []) lines

-- The fault stands on one of the lines as the least there, and none stands on a line before that one.
pub record IsFirst (round : Round) (before lines : List Placed) (fault : Fault) : Type 0 where
  pub front : List Placed
  pub line : Placed
  pub rest : List Placed
  pub parts : lines ≡ front ++ line ∷ rest
  pub earlier : NoneStand round before front
  pub number : fault.line ≡ line.number
  pub least : least_on round (before ++ front) line ≡ Some fault.kind

abbrev pub last_of : List Placed → Option Placed
last_of [] = None
last_of (l ∷ []) = Some l
last_of (l ∷ m ∷ ms) = last_of (m ∷ ms)

abbrev pub no_open : List Open → Bool
no_open [] = true
no_open (c ∷ cs) = false

abbrev pub end_fault : Option Placed → Option Fault
end_fault None = Some (record { line = 1; kind = NotCalendar })
end_fault (Some line) = if no_open (path_behind line) then None else Some (record { line = line.number + 1; kind = BadNesting })

-- What stands where the lines end: a file without lines is no calendar, and one that ends inside a component is badly nested.
abbrev pub fault_at_end : List Placed → Option Fault
fault_at_end lines = end_fault (last_of lines)

-- The first fault of round one: on a line, or else at the end.
abbrev pub IsFirstOrLast : List Placed → Fault → Type 0
IsFirstOrLast lines fault = IsFirst stands [] lines fault ⊎ (NoneStand stands [] lines × (fault_at_end lines ≡ Some fault))

abbrev pub found : ℕ → Option FaultKind → Option Fault → Option Fault
found number (Some kind) later = Some (record { line = number; kind = kind })
found number None later = later

-- the first fault of a round, given the lines before and what stands where the lines end
abbrev pub first_from : Round → (List Placed → Option Fault) → List Placed → List Placed → Option Fault
first_from round at_end before [] = at_end before
first_from round at_end before (line ∷ lines) = found line.number (least_on round before line) (first_from round at_end (before ++ line ∷ []) lines)

abbrev pub first_fault : List Placed → Option Fault
first_fault lines = first_from stands fault_at_end [] lines

-- a fold at the begin of a file, which comes alone
abbrev pub bad_fold : Fault
bad_fold = record { line = 1; kind = BadFold }
