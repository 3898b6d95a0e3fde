-- What the first round reads of a file: all of it, or its first fault and the events before that.
use Rattle.std.specs.Prelude.{◌≡◌, ℕ, List, [], ◌∷◌, ◌++◌, Ok, Err}
use Rattle.ics_values.specs.KeptTexts.{KeptTexts, all_texts}
use Rattle.ics_components.specs.declared.first_round.FirstRead.{FirstRead}
use Rattle.ics_components.specs.declared.first_round.FirstRead.TheVariants.{Whole, Faulty}
use Rattle.ics_components.specs.declared.frame.Frame.{Frame}
use Rattle.ics_components.specs.FrontSeen.{FrontSeen}
use Rattle.ics_components.specs.Kept.{SaysKept}
use Rattle.ics_components.specs.ParsedFileSeen.{ParsedFileSeen}
use Rattle.ics_components.specs.ParsedFiles.{IsSoundParsed, nothing_parsed}
use Rattle.ics_components.specs.Parted.{Reads, read_behind}
use Rattle.ics_components.specs.Pass.{bottom, parsed_of}
use Rattle.ics_components.specs.PlacedLines.{Placed, placed}

-- IT IS GATHERED OF THESE LINES by the first round, from the first on and up to any of them before which there is no fault.
pub record IsFrontOf (lines : List Placed) (front : FrontSeen) : Type 0 where
  pub before : List Placed
  pub behind : List Placed
  pub parts : lines ≡ before ++ behind
  pub frames : List Frame
  pub had : ParsedFileSeen
  pub reads : read_behind (Reads (bottom ∷ []) nothing_parsed) before ≡ Reads frames had
  pub events : front.events ≡ had.events
  pub checks : front.checks ≡ had.checks

-- WHAT THE FIRST ROUND READS: what is kept of a file without a fault, or its first fault and, where all texts are kept, what it has gathered before.
abbrev pub IsFirstRead : KeptTexts → List ℕ → FirstRead → Type 0
IsFirstRead keep bytes (Whole parsed) = SaysKept keep (Ok parsed) (parsed_of bytes) × IsSoundParsed parsed
IsFirstRead keep bytes (Faulty fault front) = (parsed_of bytes ≡ Err fault) × (keep ≡ all_texts → IsFrontOf (placed bytes) front)
