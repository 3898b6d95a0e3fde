-- The first bytes of a UID as a number, by which most UIDs are told apart.
use Rattle.std.specs.Prelude.{ℕ, zero, suc, ◌+◌, ◌*◌, List, [], ◌∷◌}

-- a number with so many more bytes behind it, each that is missing as 0
abbrev pub number_by : ℕ → ℕ → List ℕ → ℕ
number_by zero number bytes = number
number_by (suc more) number [] = number_by more (number * 256 + 0) []
number_by (suc more) number (byte ∷ bytes) = number_by more (number * 256 + byte) bytes

-- the first eight bytes
abbrev pub beginning_of : List ℕ → ℕ
beginning_of uid = number_by 8 0 uid
