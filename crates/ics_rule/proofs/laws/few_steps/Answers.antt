use Rattle.std.proofs.Common.{ℕ, ◌≤◌, List, [], ◌∷◌, Option, Some, None, subst, sym, arith}
use Rattle.std.specs.Option.{option_map}
use Rattle.ics_fields.specs.declared.local.Local.{Local}
use Rattle.ics_rule.specs.declared.cursor.Cursor.{Cursor}
use Rattle.ics_period.specs.Recurrence.{Recurrence}
use Rattle.ics_fields.specs.Locals.{number}
use Rattle.ics_rule.specs.Cursors.{known_to, looks_from, HasLooked, IsCursorOf}
use Rattle.ics_rule.specs.Calls.{AreCalls, Call, IsAnswer}
use Rattle.ics_rule.proofs.CursorLemmas.{few_steps}
use Rattle.ics_rule.proofs.laws.few_steps.Goals as goal

-- what is known after a call ends at its bound
known_within : (r : Recurrence) (bound : ℕ) (answer : Option Local) (before now : Cursor) → IsAnswer r bound answer before now →
    known_to (option_map number answer) bound ≤ bound
known_within r bound None before now is = omega arith
known_within r bound (Some local) before now is = omega (arith, is.0.in_bound)

-- a list of calls, and what they looked at
module _ (r : Recurrence) (a b : ℕ) where
  calls_looked : (calls : List Call) (before now : Cursor) → AreCalls r b calls before now →
      IsCursorOf r before × HasLooked r before a b → IsCursorOf r now × HasLooked r now a b
  calls_looked [] before now are contains = subst (λ c. IsCursorOf r c × HasLooked r c a b) (sym are) contains
  calls_looked (call ∷ calls) before now are contains =
      let within = known_within r (number call.bound) call.answer before call.now are.0.next in
      calls_looked calls call.now now are.1 (are.0.own, are.0.looked a b (omega (arith, within, are.0.bound)) contains.1)

pub returns : goal.returns
returns c = λ r from b first now calls set are.
    let a = looks_from r.parts.count (number r.start) from in
    let contains = calls_looked r a b calls first now are (set.own, set.looked b) in
    few_steps r now a b contains.0 contains.1
