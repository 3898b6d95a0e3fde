use Rattle.std.proofs.Common.{◌≡◌, ◌⊎◌, ℕ, ◌-◌, ◌<◌, ◌≤◌, true, Contains, ℤ}
use Rattle.ics_rule.specs.Cursors.{place_of, IsCursorOf}
use Rattle.ics_rule.specs.Kept.{is_kept}
use Rattle.ics_period.specs.PeriodNumbers.{rules_end}
use Rattle.ics_zone.specs.Observances.{instant_by}
use Rattle.ics_zone.specs.Inner.Tables.{onset_number, IsKeptNumber}
use Rattle.ics_zone.proofs.table.add_locals.Given as goal

abbrev pub invariant-loop-local : goal.invariant-loop-local
invariant-loop-local l = record {
  own : IsCursorOf l.fn.rule l.cursor;
  ahead : l.fn.from ≤ place_of l.cursor;
  known : (n : ℤ) → Contains l.list.items n → Contains l.initial.list.items n ⊎ IsKeptNumber l.fn.rule l.fn.offset l.fn.place l.fn.from l.fn.end n;
  stay : (n : ℤ) → Contains l.initial.list.items n → Contains l.list.items n;
  complete : (k : ℕ) → is_kept l.fn.rule k ≡ true → l.fn.from ≤ k → k < place_of l.cursor
      → Contains l.list.items (onset_number (instant_by l.fn.offset k) l.fn.place);
}

abbrev pub decreases-loop-local : goal.decreases-loop-local
decreases-loop-local l = rules_end - place_of l.cursor
