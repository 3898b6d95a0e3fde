-- The answer of a read of a file, and what takes its bytes.
use Rattle.std.specs.Prelude.{◌≡◌, ◌≤◌, ◌<◌, ◌+◌, ⊤, ℕ, List, [], ◌++◌, length, slice_get, Option, Some, None, Result, Ok, Err}
use Rattle.khal_ports.specs.declared.fault.SourceFault.{SourceFault}
use Rattle.khal_ports.specs.declared.fault.SourceFault.TheVariants.{Device, TooLarge, Memory}

-- the bytes of a file, or why there are none
abbrev pub Answer : Type 0
Answer = Result (List ℕ) SourceFault

-- the answer of a read that handed on these bytes
abbrev pub answer_of : Result Unit SourceFault → List ℕ → Answer
answer_of (Ok done) held = Ok held
answer_of (Err fault) held = Err fault

-- what a read gave of a file: its bytes, or none if it was not read
abbrev pub Contents : Type 0
Contents = Option (List ℕ)

-- what a read gave, if no allocation failed in it
abbrev pub contents_of : Answer → Option Contents
contents_of (Ok bytes) = Some (Some bytes)
contents_of (Err Device) = Some None
contents_of (Err TooLarge) = Some None
contents_of (Err Memory) = None

-- the most bytes that a file may have
abbrev pub most_bytes : ℕ
most_bytes = 16_777_216

-- From files in memory a read gives the bytes of the file with this index, or says that they are too many. An
-- allocation may always fail.
abbrev pub IsRead : List (List ℕ) → ℕ → Answer → Type 0
IsRead files index (Ok bytes) = (slice_get files index ≡ Some bytes) × (length bytes ≤ most_bytes)
IsRead files index (Err TooLarge) = (bytes : List ℕ) × (slice_get files index ≡ Some bytes) × (most_bytes < length bytes)
IsRead files index (Err Memory) = ⊤
IsRead files index (Err Device) = ⊥

-- What takes the bytes of a file may take these next: with them it has no more than a file may have.
abbrev pub MayTake : {S P : Type 0} → (S → List ℕ → P → Type 0) → P → List ℕ → Type 0
MayTake {S} took before piece = (setting : S) × (bytes : List ℕ) × took setting bytes before × (length bytes + length piece ≤ most_bytes)

-- it takes these next
abbrev pub Takes : {S P : Type 0} → (S → List ℕ → P → Type 0) → P → List ℕ → P → Type 0
Takes {S} took before piece after =
    (setting : S) (bytes : List ℕ) → took setting bytes before → length bytes + length piece ≤ most_bytes → took setting (bytes ++ piece) after

-- it takes none
abbrev pub TakesNone : {S P : Type 0} → (S → List ℕ → P → Type 0) → P → P → Type 0
TakesNone {S} took before after = (setting : S) (bytes : List ℕ) → took setting bytes before → took setting bytes after

-- it has taken none so far
abbrev pub HasNone : {S P : Type 0} → (S → List ℕ → P → Type 0) → P → Type 0
HasNone {S} took before = (setting : S) × took setting [] before

-- it takes these, the bytes of a file
abbrev pub TakesFile : {S P : Type 0} → (S → List ℕ → P → Type 0) → P → List ℕ → P → Type 0
TakesFile {S} took before bytes after = (length bytes ≤ most_bytes) × ((setting : S) → took setting [] before → took setting bytes after)
