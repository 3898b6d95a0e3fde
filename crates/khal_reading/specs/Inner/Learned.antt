-- What the code remembers of the names that were asked for.
use Rattle.std.specs.Prelude.{◌≡◌, ℕ, true, List, ◌++◌, Option, Some, None, Result, Ok, Err}
use Rattle.std.specs.BTreeSet.{contains}
use Rattle.std.specs.Cmp.Lexicographic.{slice_cmp}
use Rattle.std.specs.List.{All, list_any}
use Rattle.std.specs.Ordering.{nat_cmp}
use Rattle.std.specs.Str.{bytes_eq}
use Rattle.ics_calendar.specs.GivenFiles.{GivenFiles}
use Rattle.ics_calendar.specs.ZoneTables.{given_by}
use Rattle.khal_reading.specs.declared.answered.Answered.{Answered}
use Rattle.khal_ports.specs.declared.fault.RunFault.{RunFault}
use Rattle.khal_reading.specs.declared.finding.Found as code
use Rattle.khal_reading.specs.declared.finding.Found.TheVariants.{Given, Absent, Unread}
use Rattle.khal_reading.specs.Asked.{Asked, AsksAll, AsksSome, given_files, is_unread, names_of}
use Rattle.khal_reading.specs.Gives.{FileGives, ReadGives, gives_with}
use Rattle.khal_ports.specs.Finds.{FindAnswer, Found}

abbrev pub seen_found : code.Found → Found
seen_found (Given bytes) = Found.Given bytes.items
seen_found Absent = Found.Absent
seen_found Unread = Found.Unread

-- what was found, if no allocation failed
abbrev pub found_by : Result code.Found RunFault → Option Found
found_by (Ok found) = Some (seen_found found)
found_by (Err fault) = None

-- The zone files that were found are kept, the names that were asked for, and those whose files were not read.
pub record Knows (asked : List Asked) (answered : Answered) : Type 0 where
  pub files : (name : List ℕ) → given_by answered.files name ≡ given_files asked name
  pub names : (name : List ℕ) → contains (slice_cmp nat_cmp) answered.names name ≡ list_any (bytes_eq name) (names_of asked)
  pub unread : (name : List ℕ) → contains (slice_cmp nat_cmp) answered.unread name ≡ is_unread asked name

-- What is asked for next changes nothing for a name that was asked for.
pub record Keeps (asked more : List Asked) : Type 0 where
  pub files : (name : List ℕ) → list_any (bytes_eq name) (names_of asked) ≡ true → given_files (asked ++ more) name ≡ given_files asked name
  pub unread : (name : List ℕ) → list_any (bytes_eq name) (names_of asked) ≡ true → is_unread (asked ++ more) name ≡ is_unread asked name

-- the wanted names are asked for, and what was found is known
pub record Learns {Z : Type 0} (finds : Z → List ℕ → FindAnswer → Z →
    Type 0) (asked : List Asked) (wanted : List (List ℕ)) (before : Z) (after : Z) (answered : Answered) : Type 0 where
  pub more : List Asked
  pub asks : AsksAll finds asked wanted before more after
  pub knows : Knows (asked ++ more) answered
  pub keeps : Keeps asked more

-- some of them are
pub record LearnsSome {Z : Type 0} (finds : Z → List ℕ → FindAnswer → Z →
    Type 0) (asked : List Asked) (wanted : List (List ℕ)) (before : Z) (after : Z) : Type 0 where
  pub more : List Asked
  pub asks : AsksSome finds asked wanted before more after

-- the names that a file wants are asked for, and this is what it gives
pub record Settles {Z : Type 0} (finds : Z → List ℕ → FindAnswer → Z →
    Type 0) (asked : List Asked) (file : FileGives) (before : Z) (after : Z) (answered : Answered) (outcome : ReadGives) : Type 0 where
  pub learns : Learns finds asked file.wants before after answered
  pub outcome_is : outcome ≡ gives_with (asked ++ learns.more) file

-- zone files that agree on the names that a file wants give it one meaning
abbrev pub WantedCount : FileGives → Type 0
WantedCount file = (files others : GivenFiles) → All (λ name. files name ≡ others name) file.wants → file.gives files ≡ file.gives others
