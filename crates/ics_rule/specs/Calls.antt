-- Calls of a cursor, one after the other.
use Rattle.std.specs.Prelude.{◌≡◌, ℕ, ◌+◌, ◌≤◌, max, List, [], ◌∷◌, Option, MatchOption}
use Rattle.std.specs.Option.{option_map}
use Rattle.ics_fields.specs.declared.local.Local.{Local}
use Rattle.ics_rule.specs.declared.cursor.Cursor.{Cursor}
use Rattle.ics_period.specs.Recurrence.{Recurrence}
use Rattle.ics_fields.specs.Locals.{number}
use Rattle.ics_rule.specs.Next.{IsNextKept, NoneKept}
use Rattle.ics_rule.specs.Cursors.{known_to, looks_from, period_count, place_of, steps_of, HasLooked, IsCursorOf}

-- The answer to a call with a bound is the next kept local from the place on, and the place is then just after it. Or none is kept before
-- the bound, and the place is then the bound, or stays if the bound is earlier.
abbrev pub IsAnswer : Recurrence → ℕ → Option Local → Cursor → Cursor → Type 0
IsAnswer r bound answer before now =
    MatchOption answer
    (NoneKept r (place_of before) bound × (place_of now ≡ max (place_of before) bound))
    (λ local. IsNextKept r (place_of before) bound (number local) × (place_of now ≡ number local + 1))

-- a call looks at no period twice, and at none past its answer or, if it answers None, past its bound
abbrev pub LooksUpTo : Recurrence → ℕ → Option Local → Cursor → Cursor → Type 0
LooksUpTo r bound answer before now =
    (a b : ℕ) → known_to (option_map number answer) bound ≤ b → HasLooked r before a b → HasLooked r now a b

-- a call of `next`: its bound, its answer, and the cursor after it
pub record Call : Type 0 where
  pub bound : Local
  pub answer : Option Local
  pub now : Cursor

-- what `next` promises of a call of this cursor, whose bound is at most b
pub record IsCall (r : Recurrence) (b : ℕ) (before : Cursor) (call : Call) : Type 0 where
  pub bound : number call.bound ≤ b
  pub next : IsAnswer r (number call.bound) call.answer before call.now
  pub own : IsCursorOf r call.now
  pub looked : LooksUpTo r (number call.bound) call.answer before call.now

-- calls one after the other, with bounds up to b, that turn one cursor into another
abbrev pub AreCalls : Recurrence → ℕ → List Call → Cursor → Cursor → Type 0
AreCalls r b [] before now = now ≡ before
AreCalls r b (call ∷ calls) before now = IsCall r b before call × AreCalls r b calls call.now now

-- a cursor of a rule that was just set at a local
pub record IsSet (r : Recurrence) (from : ℕ) (c : Cursor) : Type 0 where
  pub own : IsCursorOf r c
  pub looked : (b : ℕ) → HasLooked r c (looks_from r.parts.count (number r.start) from) b

-- After any calls with bounds up to b, a cursor has looked at no more periods than hold a local earlier than b, from its first place on or,
-- under COUNT, from DTSTART on.
abbrev pub FewSteps : Type 0
FewSteps =
    (r : Recurrence) (from b : ℕ) (first now : Cursor) (calls : List Call) → IsSet r from first → AreCalls r b calls first now
    → steps_of now ≤ period_count r (looks_from r.parts.count (number r.start) from) b
