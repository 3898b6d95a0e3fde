-- HOW FAR A FILE IS READ that comes in pieces: what is gathered of the bytes that have come, and of those that follow, is what is gathered of the whole.
use Rattle.std.specs.Prelude.{◌≡◌, ℕ, ◌+◌, ◌<◌, ◌≤◌, ◌^◌, List, [], ◌++◌, length, Result, Err, IfSome, if◌then◌else◌}
use Rattle.ics_text.specs.Unfolded.{Line, begins_with_fold, lines_from, unfolded}
use Rattle.ics_values.specs.KeptTexts.{KeptTexts}
use Rattle.ics_components.specs.declared.fault.Fault.{Fault}
use Rattle.ics_components.specs.declared.file_reader.FileReader.{FileReader}
use Rattle.ics_components.specs.declared.first_round.FirstRound.{FirstRound}
use Rattle.ics_components.specs.declared.taken_lines.Place.{Place}
use Rattle.ics_components.specs.declared.taken_lines.Place.TheVariants.{Start, Behind, At}
use Rattle.ics_components.specs.declared.taken_lines.TakenLines.{TakenLines}
use Rattle.ics_components.specs.FirstFault.{bad_fold}
use Rattle.ics_components.specs.KeptPass.{kept_of, pass_on}
use Rattle.ics_components.specs.ParsedFileSeen.{ParsedFileSeen}

-- what the first round says from a place on, of the next bytes and of the lines behind them
abbrev pub says_at : KeptTexts → FirstRound → Place → List ℕ → List Line → Result ParsedFileSeen Fault
says_at keep round Start bytes more = if begins_with_fold bytes then Err bad_fold else pass_on keep round (unfolded bytes ++ more)
says_at keep round (Behind breaks) bytes more = pass_on keep round (lines_from (breaks + 1) bytes ++ more)
says_at keep round (At fault) bytes more = Err fault

abbrev pub says_with : TakenLines → List ℕ → List Line → Result ParsedFileSeen Fault
says_with taken = says_at taken.keep taken.round taken.place

-- what it says where these bytes are all that follow
abbrev pub says_then : TakenLines → List ℕ → Result ParsedFileSeen Fault
says_then taken bytes = says_with taken bytes []

-- the number of line ends before a place
abbrev pub breaks_at : Place → ℕ
breaks_at (Behind breaks) = breaks
breaks_at other = 0

-- The number of the line behind the last one fits. Behind a fault no line is numbered.
abbrev pub LastFits : Place → FirstRound → Type 0
LastFits (At fault) round = Unit {0}
LastFits other round = IfSome round.last (λ n. n + 1 < 2 ^ 64)

-- THE READER keeps these texts and has read these bytes of a file, 16,777,216 at most: what the first round says of them and of any that follow is what it
-- says of the latter from where it stands.
pub record HasRead (keep : KeptTexts) (bytes : List ℕ) (reader : FileReader) : Type 0 where
  pub says : (more : List ℕ) → kept_of keep (bytes ++ more) ≡ says_then reader.taken (reader.carry.items ++ more)
  pub held : breaks_at reader.taken.place + length reader.carry.items ≤ length bytes
  pub short : length bytes ≤ 16_777_216
  pub last : LastFits reader.taken.place reader.taken.round
