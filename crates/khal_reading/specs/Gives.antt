-- WHAT A READ GIVES: a file for the listing, and the lines that are written for it, whether a run goes on behind faults or not.
use Rattle.std.specs.Prelude.{◌≡◌, ℕ, Bool, true, false, List, [], ◌∷◌, map, get_or, Option, Some, None, Result, Ok, Err, if◌then◌else◌}
use Rattle.std.specs.List.{flat_map, list_any, zip}
use Rattle.std.specs.Option.{option_map}
use Rattle.ics_file.specs.File.{FileSaid}
use Rattle.ics_event.specs.Kept.{KeptTexts}
use Rattle.ics_file.specs.Kept.{kept_said}
use Rattle.ics_calendar.specs.Files.{file_of, wanted_names}
use Rattle.ics_calendar.specs.GivenFiles.{GivenFiles}
use Rattle.ics_calendar.specs.Parts.{Given, file_gives, names_for_parts}
use Rattle.ics_components.specs.declared.fault.Fault.{Fault}
use Rattle.khal_ports.specs.Answers.{Contents}
use Rattle.khal_reading.specs.Asked.{Asked, given_files, is_unread}
use Rattle.khal_reading.specs.Errors.{Refusal, lines_of}

-- the file whose events are listed, if there is one, and why it is not listed, or not whole
pub record ReadGives : Type 0 where
  pub file : Option FileSaid
  pub refusals : List Refusal

abbrev pub unread : ReadGives
unread = record { file = None; refusals = None ∷ [] }

-- which zone files a file wants, and what it gives with those that are given
pub record FileGives : Type 0 where
  pub wants : List (List ℕ)
  pub gives : GivenFiles → ReadGives

-- An accepted file gives its events, and any other nothing.
abbrev pub whole : Result FileSaid Fault → ReadGives
whole (Ok file) = record { file = Some file; refusals = [] }
whole (Err fault) = record { file = None; refusals = Some fault ∷ [] }

abbrev pub gives_whole : List ℕ → FileGives
gives_whole bytes = record { wants = wanted_names bytes; gives = λ files. whole (file_of files bytes) }

-- Where a run goes on behind faults, a file gives the events of its accepted parts.
abbrev pub in_parts : Given → ReadGives
in_parts given = record { file = Some given.said; refusals = map Some given.faults }

abbrev pub gives_in_parts : List ℕ → List ℕ → FileGives
gives_in_parts name bytes = record { wants = names_for_parts name bytes; gives = λ files. in_parts (file_gives files name bytes) }

-- WHAT A FILE GIVES, by whether the run goes on behind faults.
abbrev pub given_by_file : Bool → List ℕ → List ℕ → FileGives
given_by_file keep_going name bytes = if keep_going then gives_in_parts name bytes else gives_whole bytes

-- If a zone file that the file wants was not read, it is as if the file were not.
abbrev pub gives_with : List Asked → FileGives → ReadGives
gives_with asked file = if list_any (is_unread asked) file.wants then unread else file.gives (given_files asked)

-- THE SAME where some texts of its events are not kept
abbrev pub kept_read : KeptTexts → ReadGives → ReadGives
kept_read keep given = record given { file = option_map (kept_said keep) given.file }

abbrev pub kept_gives : KeptTexts → FileGives → FileGives
kept_gives keep file = record file { gives = λ files. kept_read keep (file.gives files) }

-- a read: the name of a file, and what was in it, if it was read
abbrev pub Read : Type 0
Read = List ℕ × Contents

abbrev pub gives_nothing : FileGives
gives_nothing = record { wants = []; gives = λ files. unread }

abbrev pub gives_of : Bool → Read → FileGives
gives_of keep_going (name, None) = gives_nothing
gives_of keep_going (name, Some bytes) = given_by_file keep_going name bytes

-- WHAT A READ GIVES, and which zone files it wants.
abbrev pub read_gives : Bool → List Asked → Read → ReadGives
read_gives keep_going asked read = gives_with asked (gives_of keep_going read)

abbrev pub read_wants : Bool → Read → List (List ℕ)
read_wants keep_going read = (gives_of keep_going read).wants

-- the name of a file that there is, by its index
abbrev pub name_at : List (List ℕ) → ℕ → List ℕ
name_at names index = get_or names index []

-- THE READS of a run: all files by their names, or the first of them
abbrev pub reads_of : List (List ℕ) → List Contents → List Read
reads_of names contents = zip names contents

-- the names that the files want
abbrev pub all_wanted : Bool → List Read → List (List ℕ)
all_wanted keep_going reads = flat_map (read_wants keep_going) reads

-- THE FILES WHOSE EVENTS ARE LISTED, in the order of the reads
abbrev pub file_first : Option FileSaid → List FileSaid
file_first None = []
file_first (Some file) = file ∷ []

abbrev pub listed_files : Bool → List Asked → List Read → List FileSaid
listed_files keep_going asked reads = flat_map (λ read. file_first (read_gives keep_going asked read).file) reads

-- THE LINES that are written for them
abbrev pub error_lines : Bool → List Asked → List Read → List ℕ
error_lines keep_going asked reads = flat_map (λ read. lines_of read.0 (read_gives keep_going asked read).refusals) reads

-- A read is faulty where there is a reason why its file is not listed, or not whole.
abbrev pub are_some : List Refusal → Bool
are_some [] = false
are_some (refusal ∷ refusals) = true

abbrev pub is_faulty : Bool → List Asked → Read → Bool
is_faulty keep_going asked read = are_some (read_gives keep_going asked read).refusals

-- these are the files of the reads that are listed, with the texts that are kept, and the lines of those that are not, or not whole
pub record IsReading (keep_going : Bool) (keep : KeptTexts) (asked : List Asked) (reads : List Read) (files : List FileSaid) (errors : List ℕ) : Type 0 where
  pub files_are : files ≡ map (kept_said keep) (listed_files keep_going asked reads)
  pub errors_are : errors ≡ error_lines keep_going asked reads
