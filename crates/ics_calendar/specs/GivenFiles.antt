-- THE ZONE FILES that a caller gives for names of time zones (RFC 5545, section 3.2.19; RFC 9636).
use Rattle.std.specs.Prelude.{ℕ, Bool, true, false, List, [], ◌∷◌, filter, filter_map, Option, Some, None, is_some, if◌then◌else◌}
use Rattle.std.specs.Option.{option_or}
use Rattle.std.specs.Str.{bytes_eq}
use Rattle.ics_zone.specs.ZoneFiles.{TzifText, zone_file}
use Rattle.ics_zone.specs.ZoneSaid.{ZoneSaid}

-- What is given for a name: nothing, a file that is no zone file, or what a zone file says.
abbrev pub GivenFiles : Type 0
GivenFiles = List ℕ → Option (Option TzifText)

abbrev pub no_files : GivenFiles
no_files name = None

-- with a file for a name more, unless one is given for it already
abbrev pub with_file : GivenFiles → List ℕ → List ℕ → GivenFiles
with_file files name bytes other = option_or (files other) (if bytes_eq other name then Some (zone_file bytes) else None)

-- Pairs of a name and the bytes of a file. Of several files for one name the first counts.
abbrev pub files_by : List (List ℕ × List ℕ) → GivenFiles
files_by [] name = None
files_by (file ∷ files) name = if bytes_eq name file.0 then Some (zone_file file.1) else files_by files name

-- the time zone that is given
abbrev pub zone_in : Option (Option TzifText) → Option ZoneSaid
zone_in (Some (Some file)) = Some (ZoneSaid.ByFile file)
zone_in _ = None

-- what is given is no zone file
abbrev pub is_refused : Option (Option TzifText) → Bool
is_refused (Some None) = true
is_refused _ = false

-- of some names, those that a file gives a zone for, these zones, and the names for which a file is given that is no zone file
abbrev pub given_names : GivenFiles → List (List ℕ) → List (List ℕ)
given_names files names = filter (λ name. is_some (zone_in (files name))) names

abbrev pub given_zones : GivenFiles → List (List ℕ) → List ZoneSaid
given_zones files names = filter_map (λ name. zone_in (files name)) names

abbrev pub bad_names : GivenFiles → List (List ℕ) → List (List ℕ)
bad_names files names = filter (λ name. is_refused (files name)) names
