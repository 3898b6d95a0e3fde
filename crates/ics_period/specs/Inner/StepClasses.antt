-- The seconds of a set by the rests that they leave.
use Rattle.std.specs.Prelude.{◌≡◌, ℕ, List, length, slice_index_or, ◌%◌, ◌<◌, true}
use Rattle.ics_fields.specs.Sets.{contains}

-- the seconds of a set stand in the classes of the rests that they leave by a divisor
abbrev pub HasClasses : ℕ → ℕ → List ℕ → Type 0
HasClasses seconds divisor classes =
    (length classes ≡ 60) × ((s : ℕ) → s < 60 → contains seconds s ≡ true → contains (slice_index_or classes (s % divisor) 0) s ≡ true)
