-- Where a search for the starts of a rule began, so that a later search can go on from there.
use Rattle.std.specs.Prelude.{◌≡◌, ◌⊎◌, MatchOption, Option, None, Some, is_some, true}
use Rattle.std.specs.Coded.{Unit-prop, Π_prop}
use Rattle.std.proofs.Props.{props}
use Rattle.ics_event.specs.declared.event.Event.{Event}
use Rattle.ics_fields.specs.Days.{IsDayNumber}
use Rattle.ics_fields.specs.Locals.{number}
use Rattle.ics_fields.specs.declared.local.Local.{Local}
use Rattle.ics_rule.specs.Cursors.{place_of, IsCursorOf}
use Rattle.ics_period.specs.Recurrence.{Recurrence}
use Rattle.ics_rule.specs.declared.cursor.Cursor.{Cursor}
use Rattle.ics_starts.specs.RuleStartLaws.{cursor-prop, looked-prop}
use Rattle.ics_starts.specs.RuleStarts.{HasLookedTo}
use Rattle.ics_starts.specs.Starts.{recurrence_of}
use Rattle.ics_starts.specs.declared.mark.Mark.{Mark}

-- a cursor of the rule at this local, which has looked at no period past the local's midnight
pub record IsBegun (rule : Recurrence) (from : Local) (cursor : Cursor) : Type 0 where
  pub day : IsDayNumber from.day
  pub own : IsCursorOf rule cursor
  pub place : place_of cursor ≡ number from
  pub looked : HasLookedTo rule from from.day cursor

-- a mark of a rule under COUNT
pub record IsCountMark (rule : Recurrence) (m : Mark) : Type 0 where
  pub counts : is_some rule.parts.count ≡ true
  pub begun : IsBegun rule m.from m.cursor

-- what stands for a mark is the same as before, or a mark of a rule under COUNT
abbrev pub IsMarked : Recurrence → Option Mark → Option Mark → Type 0
IsMarked rule old new = (new ≡ old) ⊎ MatchOption new ⊥ (IsCountMark rule)

-- a mark, if there is one, is that of the event's rule
abbrev pub IsMarkOf : Event → Option Mark → Type 0
IsMarkOf event None = Unit {0}
IsMarkOf event (Some m) = (rule : Recurrence) → recurrence_of event ≡ Some rule → IsBegun rule m.from m.cursor

begun-prop : (rule : Recurrence) (from : Local) (cursor : Cursor) → IsProp (IsBegun rule from cursor)
begun-prop rule from cursor = hlevel (props, cursor-prop, looked-prop)

pub mark-prop : (event : Event) (mark : Option Mark) → IsProp (IsMarkOf event mark)
mark-prop event None = Unit-prop
mark-prop event (Some m) = Π_prop λ rule. Π_prop λ h. begun-prop rule m.from m.cursor
