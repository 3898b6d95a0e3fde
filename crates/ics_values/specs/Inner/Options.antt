-- A value that is there exactly if a test passes.
use Rattle.std.specs.Prelude.{◌≡◌, Bool, true, false, Option, Some, None}

-- the option has the value if the test passes, and is None if it does not
abbrev pub IsWhere : {A : Type 0} → Option A → Bool → A → Type 0
IsWhere None passes value = passes ≡ false
IsWhere (Some x) passes value = (passes ≡ true) × (x ≡ value)
