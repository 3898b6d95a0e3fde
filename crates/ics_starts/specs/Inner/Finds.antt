-- What a search of a rule finds.
use Rattle.std.specs.Prelude.{◌≡◌, ◌<◌, ◌≤◌, ◌+◌, ℕ, Option, None, Some}
use Rattle.ics_fields.specs.Days.{IsDayNumber}
use Rattle.ics_fields.specs.Locals.{number}
use Rattle.ics_fields.specs.declared.local.Local.{Local}
use Rattle.ics_period.specs.Recurrence.{Recurrence}
use Rattle.ics_rule.specs.Cursors.{looks_from, place_of, HasLooked, IsCursorOf}
use Rattle.ics_rule.specs.Next.{IsNextKept, NoneKept}
use Rattle.ics_rule.specs.declared.cursor.Cursor.{Cursor}

-- of the locals from one on and before another the rule keeps this one alone, which is the last of them, or none
abbrev pub IsFound : Recurrence → ℕ → ℕ → Option Local → Type 0
IsFound rule from to None = NoneKept rule from to
IsFound rule from to (Some local) = IsDayNumber local.day × (IsNextKept rule from to (number local) × (to ≡ number local + 1))

-- the rule keeps this local next, from a place on
pub record IsNextLocal (rule : Recurrence) (place : ℕ) (local : Local) : Type 0 where
  pub day : IsDayNumber local.day
  pub next : IsNextKept rule place (number local + 1) (number local)

-- a cursor of the rule has looked at no period past its place, from the start on
pub record IsCounting (rule : Recurrence) (cursor : Cursor) : Type 0 where
  pub own : IsCursorOf rule cursor
  pub looked : (from b : ℕ) → place_of cursor ≤ b → HasLooked rule cursor (looks_from rule.parts.count (number rule.start) from) b

-- a cursor has looked at no period from a local on, if it had not before
abbrev pub LooksOn : Recurrence → ℕ → Cursor → Cursor → Type 0
LooksOn rule to before now =
    (from b : ℕ) → to ≤ b → HasLooked rule before (looks_from rule.parts.count (number rule.start) from) b
    → HasLooked rule now (looks_from rule.parts.count (number rule.start) from) b

-- A step of a search up to a bound: its answer is what the rule keeps from the cursor's place on and before the new place, which is not past the bound.
pub record IsStep (rule : Recurrence) (bound : ℕ) (answer : Option Local) (before now : Cursor) : Type 0 where
  pub found : IsFound rule (place_of before) (place_of now) answer
  pub later : place_of before < place_of now
  pub within : place_of now ≤ bound
  pub own : IsCursorOf rule now
  pub looked : LooksOn rule (place_of now) before now
