-- What the caller hands over, and how it is held.
use Rattle.std.specs.Prelude.{◌≡◌, ℕ, ℤ, List, map, slice_get, Some, string_bytes}
use Rattle.std.specs.Str.{IsUtf8}
use Rattle.khal_ports.specs.declared.memory_source.MemoryFile.{MemoryFile}
use Rattle.khal_ports.specs.declared.memory_source.MemorySource.{MemorySource}
use Rattle.khal_ports.specs.declared.memory_zones.MemoryZone.{MemoryZone}
use Rattle.khal_ports.specs.declared.memory_zones.MemoryZones.{MemoryZones}
use Rattle.khal_list_c.specs.declared.given.KhalFile.{KhalFile}
use Rattle.khal_list_c.specs.declared.words.KhalWord.{KhalWord}

-- a name and the bytes that it has
abbrev pub File : Type 0
File = List ℕ × List ℕ

-- The words of a command line, the files of the folder, zone files by their names, the zone file for `--zone-file`, and the clock.
pub record Given : Type 0 where
  pub words : List (List ℕ)
  pub files : List File
  pub zones : List File
  pub zone_file : List ℕ
  pub now : ℤ

abbrev pub given_file : KhalFile → File
given_file file = (file.name.now, file.bytes.now)

abbrev pub given_word : KhalWord → List ℕ
given_word word = word.bytes.now

abbrev pub given_of : List KhalWord → List KhalFile → List KhalFile → List ℕ → ℤ → Given
given_of words files zones zone_file now = record {
  words = map given_word words;
  files = map given_file files;
  zones = map given_file zones;
  zone_file = zone_file;
  now = now;
}

abbrev pub names_of : List File → List (List ℕ)
names_of files = map (λ file. file.0) files

-- one of these texts is not UTF-8
pub record HasNoText (texts : List (List ℕ)) : Type 0 where
  pub text : List ℕ
  pub index : ℕ
  pub stands : slice_get texts index ≡ Some text
  pub none : ¬ (IsUtf8 text)

abbrev pub held_file : MemoryFile → File
held_file file = (string_bytes file.name, file.bytes.items)

abbrev pub held_zone : MemoryZone → File
held_zone zone = (zone.name.items, zone.bytes.items)

abbrev pub held_files : MemorySource → List File
held_files source = map held_file source.files.items

abbrev pub held_zones : MemoryZones → List File
held_zones zones = map held_zone zones.files.items
