-- What a request lists of the files that are handed over.
use Rattle.std.specs.Prelude.{◌≡◌, ◌↔◌, ◌++◌, ℕ, List, [], Any, IsTrue, Bool, map, length, nat_le, Option, Some, None, Ok, if◌then◌else◌}
use Rattle.khal_list.specs.Headline.{Shows, more_line}
use Rattle.khal_list.specs.declared.request.Request.{Request}
use Rattle.khal_reading.specs.Asked.{Asked, and_names}
use Rattle.khal_reading.specs.Gives.{Read, all_wanted, error_lines, is_faulty, listed_files, reads_of}
use Rattle.khal_reading.specs.declared.status.Status.{Status}
use Rattle.khal_reading.specs.declared.status.Status.TheVariants.{Faulty}
use Rattle.khal_ports.specs.Answers.{Contents, most_bytes}
use Rattle.khal_ports.specs.Finds.{Found, file_named, most_zone_bytes}
use Rattle.khal_list_c.specs.Asked.{RequestBy}
use Rattle.khal_list_c.specs.Given.{File, Given}

-- what is read of a file: its bytes, unless they are too many
abbrev pub contents_of : File → Contents
contents_of file = if nat_le (length file.1) most_bytes then Some file.1 else None

-- what is found for the name of a zone: the first zone file of that name, unless it has too many bytes
abbrev pub found_by : Option (List ℕ) → Found
found_by (Some bytes) = if nat_le (length bytes) most_zone_bytes then Found.Given bytes else Found.Unread
found_by None = Found.Absent

abbrev pub asked_for : List File → List ℕ → Asked
asked_for zones name = (name, found_by (file_named zones name))

abbrev pub reads_given : List File → List Read
reads_given files = reads_of (map (λ file. file.0) files) (map contents_of files)

-- the names that the files want, each once, with what is found for them
abbrev pub asked_of : Bool → List File → List File → List Asked
asked_of keep_going files zones = map (asked_for zones) (and_names [] (all_wanted keep_going (reads_given files)))

-- A request lists files, with zone files, in two texts. The first is what it shows of what the files give. The second has the lines of the files that
-- are not listed, or not whole, and, if the limit cuts the listing, the line with the token from which it continues. The status is Faulty exactly if
-- there is a line of a file.
pub record ListsFiles (files zones : List File) (request : Request) (out err : List ℕ) (status : Status) : Type 0 where
  pub token : Option (List ℕ)
  pub shows : Shows (listed_files request.keep_going (asked_of request.keep_going files zones) (reads_given files)) request out token
  pub told : err ≡ error_lines request.keep_going (asked_of request.keep_going files zones) (reads_given files) ++ more_line token
  pub faulty : (status ≡ Faulty) ↔ Any (λ read. IsTrue (is_faulty request.keep_going (asked_of request.keep_going files zones) read)) (reads_given files)

-- the words that are handed over are a request, and it lists the files so
pub record ListsGiven (g : Given) (out err : List ℕ) (status : Status) : Type 0 where
  pub request : Request
  pub asked : RequestBy g.zone_file g.words g.now (Ok request)
  pub lists : ListsFiles g.files g.zones request out err status
