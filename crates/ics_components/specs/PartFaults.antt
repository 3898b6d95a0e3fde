-- The first fault of some of the lines of a file, and that of one of its components by itself; and where lines stand without a component.
use Rattle.std.specs.Prelude.{◌≡◌, ℕ, ◌<◌, Bool, not, ◌||◌, ◌==◌, nat_le, List, [], ◌∷◌, ◌++◌, filter, Option, Some, None, if◌then◌else◌}
use Rattle.std.specs.List.{list_any}
use Rattle.std.specs.Option.{option_or}
use Rattle.ics_text.specs.Unfolded.{Line}
use Rattle.ics_text.specs.ContentLines.{content_of}
use Rattle.ics_components.specs.PlacedLines.{Placed, Open, placed, placed_from, path_behind}
use Rattle.ics_components.specs.Faults.{stands}
use Rattle.ics_components.specs.FirstFault.{Fault, Round, found, least_on, first_from, first_fault, fault_at_end}

-- a line that stands in the component that begins on that line, or in one that stands in it
abbrev pub is_within : ℕ → Placed → Bool
is_within begun line = list_any (λ c. c.begun == begun) line.path

-- The first fault that a round finds on the chosen ones of some lines, given the lines before.
abbrev pub first_among : (Placed → Bool) → Round → List Placed → List Placed → Option Fault
first_among chosen round before [] = None
first_among chosen round before (line ∷ lines) =
    found line.number (if chosen line then least_on round before line else None) (first_among chosen round (before ++ line ∷ []) lines)

-- THE FIRST FAULT OF A COMPONENT in the first round, by the line on which it begins.
abbrev pub component_fault : List Placed → ℕ → Option Fault
component_fault lines begun = first_among (is_within begun) stands [] lines

-- the fault on the lesser line
abbrev pub earlier : Option Fault → Option Fault → Option Fault
earlier None other = other
earlier (Some fault) None = Some fault
earlier (Some fault) (Some other) = if nat_le fault.line other.line then Some fault else Some other

-- THE FIRST FAULT OF A FILE is the least of those of its parts, whatever the parts are, or else the one at its end.
abbrev pub IsLeastOfParts : Type 0
IsLeastOfParts =
    (part : Placed → Bool) (file : List ℕ) →
    first_fault (placed file)
    ≡ option_or (earlier (first_among part stands [] (placed file)) (first_among (λ line. not (part line)) stands [] (placed file)))
    (fault_at_end (placed file))

-- The first fault of several parts is the least of theirs.
abbrev pub IsLeastOfBoth : Type 0
IsLeastOfBoth =
    (part other : Placed → Bool) (file : List ℕ) →
    first_among (λ line. part line || other line) stands [] (placed file)
    ≡ earlier (first_among part stands [] (placed file)) (first_among other stands [] (placed file))

-- A component is judged by itself: its first fault is that of its lines alone.
abbrev pub StandsAlone : Type 0
StandsAlone =
    (file : List ℕ) (begun : ℕ) → 0 < begun →
    component_fault (placed file) begun ≡ first_from stands (λ before. None) [] (filter (is_within begun) (placed file))

-- the path behind some lines
abbrev pub path_after : List Open → List Line → List Open
path_after path [] = path
path_after path (line ∷ lines) = path_after (path_behind (record { number = line.number; content = content_of line.bytes; path = path })) lines

-- Lines behind which the same components are open as before them, as those of a component from its BEGIN to its END: the others stand where they stand
-- without them.
abbrev pub StandsApart : Type 0
StandsApart =
    (path : List Open) (block rest : List Line) → path_after path block ≡ path →
    placed_from path (block ++ rest) ≡ placed_from path block ++ placed_from path rest
