-- The request that words make, where the bytes of a zone file are handed over for `--zone-file`.
use Rattle.std.specs.Prelude.{ℕ, ℤ, List, Option, is_some, option_map, Result, Err, if◌then◌else◌}
use Rattle.ics_zone.specs.ZoneFiles.{zone_file}
use Rattle.ics_zone.specs.ZoneSaid.{ZoneSaid, ByFile}
use Rattle.khal_words.specs.Entries.{Entries, entries_of, zone_file_text, AreTaken, IsRefused}
use Rattle.khal_list.specs.RequestOf.{EntriesAnswer, zone_named}
use Rattle.khal_list.specs.declared.request.Request.{Request}
use Rattle.khal_list.specs.declared.request_fault.RequestFault.{RequestFault}
use Rattle.khal_list.specs.declared.request_fault.RequestFault.TheVariants.{Usage, Memory}

-- what the display zone says, if there is one: the zone of those bytes if the words have `--zone-file`, and else the one that `--zone` names
abbrev pub display_by : List ℕ → Entries → Option ZoneSaid
display_by file entries = if is_some (zone_file_text entries) then option_map ByFile (zone_file file) else zone_named entries

-- the answer to words at a clock
abbrev pub RequestBy : List ℕ → List (List ℕ) → ℤ → Result Request RequestFault → Type 0
RequestBy file words now (Err (Usage text help)) = IsRefused words help
RequestBy file words now (Err Memory) = Unit {0}
RequestBy file words now answer = AreTaken words × EntriesAnswer (entries_of words) (display_by file (entries_of words)) now answer
