-- What a source of zone files answers for a name.
use Rattle.std.specs.Prelude.{◌≡◌, ◌≢◌, ◌≤◌, ◌<◌, ◌==◌, ◌&&◌, ◌||◌, not, nat_le, ⊤, ℕ, Bool, true, List, [], ◌∷◌, length, Option, Some, None, IfSome}
use Rattle.std.specs.Prelude.{option_map, Result, Ok, Err, if◌then◌else◌}
use Rattle.std.specs.Char.{is_ascii_alphanumeric}
use Rattle.std.specs.List.{list_all, list_any, slice_split}
use Rattle.std.specs.Str.{bytes_eq}
use Rattle.std.specs.declared.vec.Vec.{Vec}
use Rattle.khal_ports.specs.declared.fault.SourceFault.{SourceFault}
use Rattle.khal_ports.specs.declared.fault.SourceFault.TheVariants.{Device, TooLarge, Memory}

-- the bytes of a zone file, or none if there is no such file, or why it was not read
abbrev pub FindAnswer : Type 0
FindAnswer = Result (Option (List ℕ)) SourceFault

abbrev pub find_answer_of : {V : Type 0} → Result (Option (Vec ℕ V)) SourceFault → FindAnswer
find_answer_of (Ok file) = Ok (option_map (λ bytes. bytes.items) file)
find_answer_of (Err fault) = Err fault

-- What was found for a name: the bytes of a zone file, or that there is none, or that it was not read.
pub data Found : Type 0 where
  Given : List ℕ → Found
  Absent : Found
  Unread : Found

-- what an answer found, if no allocation failed
abbrev pub found_of : FindAnswer → Option Found
found_of (Ok (Some bytes)) = Some (Given bytes)
found_of (Ok None) = Some Absent
found_of (Err Device) = Some Unread
found_of (Err TooLarge) = Some Unread
found_of (Err Memory) = None

-- the most bytes that a zone file may have
abbrev pub most_zone_bytes : ℕ
most_zone_bytes = 1_048_576

-- the bytes for a name in pairs of names and bytes, of which the first of a name counts
abbrev pub file_named : List (List ℕ × List ℕ) → List ℕ → Option (List ℕ)
file_named [] name = None
file_named (file ∷ files) name = if bytes_eq file.0 name then Some file.1 else file_named files name

-- In files in memory a name is found, or there is none, or it has too many bytes. An allocation may always fail.
abbrev pub IsFind : List (List ℕ × List ℕ) → List ℕ → FindAnswer → Type 0
IsFind files name (Ok found) = (file_named files name ≡ found) × IfSome found (λ bytes. length bytes ≤ most_zone_bytes)
IsFind files name (Err TooLarge) = (bytes : List ℕ) × (file_named files name ≡ Some bytes) × (most_zone_bytes < length bytes)
IsFind files name (Err Memory) = ⊤
IsFind files name (Err Device) = ⊥

-- a letter, a digit, `_`, `-`, `+` or `/`
abbrev pub is_path_byte : ℕ → Bool
is_path_byte b = is_ascii_alphanumeric b || (b == 95 || (b == 45 || (b == 43 || b == 47)))

-- one of the parts between slashes is empty
abbrev pub has_empty_part : List ℕ → Bool
has_empty_part name = list_any (λ part. length part == 0) (slice_split (λ b. b == 47) name)

-- a name that is a path below a folder: at most 255 bytes, no empty part, and these bytes alone
abbrev pub is_path : List ℕ → Bool
is_path name = nat_le (length name) 255 && (not (has_empty_part name) && list_all is_path_byte name)

-- below a folder there is no file for a name that is no such path, and without a folder there is none for any name
abbrev pub IsFindBelow : {F : Type 0} → Option F → List ℕ → FindAnswer → Type 0
IsFindBelow None name answer = answer ≡ Ok None
IsFindBelow (Some folder) name answer = is_path name ≢ true → answer ≡ Ok None
