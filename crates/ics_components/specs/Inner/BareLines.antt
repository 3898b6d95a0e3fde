-- Lines that leave no doubt that a file has parts, none of whose events has a UID.
use Rattle.std.specs.Prelude.{◌≡◌, Bool, true, false, ◌&&◌, ◌||◌, not, List, [], ◌∷◌, is_none}
use Rattle.ics_text.specs.Bytes.{is_empty}
use Rattle.ics_text.specs.Unfolded.{Line}
use Rattle.ics_components.specs.declared.name.Name.TheVariants as name
use Rattle.ics_components.specs.EventLines.{in_any_event, nests}
use Rattle.ics_components.specs.FirstFault.{no_open}
use Rattle.ics_components.specs.PlacedLines.{Placed, Open, is_named, path_behind, placed_from, value}

-- in an event, what is its UID or what may stand for one
abbrev pub leaves_doubt : Placed → Bool
leaves_doubt line =
    is_none line.content || (is_named name.RecurrenceId line || (is_named name.Uid line && not (is_empty (value line))))

-- A BARE LINE nests, and is nothing of that in an event.
abbrev pub is_bare : Placed → Bool
is_bare line = nests line && not (in_any_event line.path && leaves_doubt line)

-- all lines are bare, and no component is open behind them
abbrev pub bare_over : List Open → List Placed → Bool
bare_over path [] = no_open path
bare_over path (line ∷ lines) = is_bare line && bare_over (path_behind line) lines

-- whether a line is bare, and what is open behind it
abbrev pub StepsBare : Bool → Placed → List Open → List Open → Type 0
StepsBare true line path behind = (behind ≡ path_behind line) × ((rest : List Placed) → bare_over path (line ∷ rest) ≡ bare_over behind rest)
StepsBare false line path behind = (rest : List Placed) → bare_over path (line ∷ rest) ≡ false

-- the first of these lines is bare or not, and these are behind it
abbrev pub GoesBare : Bool → List Line → List Line → List Open → List Open → Type 0
GoesBare true lines rest path behind = bare_over path (placed_from path lines) ≡ bare_over behind (placed_from behind rest)
GoesBare false lines rest path behind = bare_over path (placed_from path lines) ≡ false
