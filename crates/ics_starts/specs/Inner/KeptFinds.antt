-- What searches of a rule have found, so that a later search need not look for it again.
use Rattle.std.specs.Prelude.{List, Option, None, Some, ℕ}
use Rattle.std.specs.Coded.{Unit-prop}
use Rattle.std.proofs.Props.{props}
use Rattle.std.specs.List.{AllByRecursion, AllByRecursion-prop}
use Rattle.ics_fields.specs.declared.local.Local.{Local}
use Rattle.ics_period.specs.Recurrence.{Recurrence}
use Rattle.ics_rule.specs.declared.cursor.Cursor.{Cursor}
use Rattle.ics_starts.specs.Inner.Finds.{IsCounting, IsFound}
use Rattle.ics_starts.specs.declared.kept_locals.Find.{Find}
use Rattle.ics_starts.specs.declared.placed_cursor.PlacedCursor.{PlacedCursor}
use Rattle.ics_starts.specs.RuleStartLaws.{cursor-prop, looked-at-prop}

abbrev pub IsFind : Recurrence → Find → Type 0
IsFind rule find = IsFound rule find.from find.to find.local

abbrev pub AreFinds : Recurrence → List Find → Type 0
AreFinds rule finds = AllByRecursion (IsFind rule) finds

-- under COUNT a cursor is kept that has looked at no period past its place
abbrev pub HasCounting : Recurrence → Option PlacedCursor → Type 0
HasCounting rule None = Unit {0}
HasCounting rule (Some c) = IsCounting rule c.cursor

found-prop : (rule : Recurrence) (from to : ℕ) (answer : Option Local) → IsProp (IsFound rule from to answer)
found-prop rule from to None = hlevel props
found-prop rule from to (Some local) = hlevel props

pub finds-prop : (rule : Recurrence) (finds : List Find) → IsProp (AreFinds rule finds)
finds-prop rule finds = AllByRecursion-prop (IsFind rule) (λ f. found-prop rule f.from f.to f.local) finds

is-counting-prop : (rule : Recurrence) (cursor : Cursor) → IsProp (IsCounting rule cursor)
is-counting-prop rule cursor = hlevel (props, cursor-prop, looked-at-prop)

pub counting-prop : (rule : Recurrence) (counting : Option PlacedCursor) → IsProp (HasCounting rule counting)
counting-prop rule None = Unit-prop
counting-prop rule (Some c) = is-counting-prop rule c.cursor
