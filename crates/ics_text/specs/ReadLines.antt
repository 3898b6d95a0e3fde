-- A call of a reader that does not read each property.
use Rattle.std.specs.Prelude.{◌≡◌, ℕ, Bool, List, [], ◌∷◌, Option, Some, None}
use Rattle.ics_text.specs.Unfolded.{Line}
use Rattle.ics_text.specs.Passing.{IsPassed}
use Rattle.ics_text.specs.declared.read_line.ReadLine.{ReadLine}
use Rattle.ics_text.specs.declared.read_line.ReadLine.TheVariants.{Whole, PassedOver}

-- A call took the first of the lines still to come, or passed over it, or answered None at the end, where none come any more.
abbrev pub TakesRead : (List ℕ → Bool) → List Line → Option ReadLine → List Line → Type 0
TakesRead reads old None new = (old ≡ []) × (new ≡ [])
TakesRead reads old (Some (Whole line)) new = old ≡ line ∷ new
TakesRead reads old (Some (PassedOver number)) new = IsPassed reads number old new
