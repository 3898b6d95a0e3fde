use Rattle.std.proofs.Common.{◌≡◌, ℕ, ◌<◌, ◌≤◌, ◌+◌, ◌-◌, false}
use Rattle.ics_fields.specs.Fields.{IsCivilOf}
use Rattle.ics_period.specs.Candidates.{lets_date}
use Rattle.ics_period.proofs.left_out.days_unlisted.Given as goal

abbrev pub invariant-loop-out : goal.invariant-loop-out
invariant-loop-out l = record {
  high : l.out ≤ l.rest;
  none : (e : ℕ) → IsCivilOf l.fields e → (j : ℕ) → j < l.out → lets_date l.parts (e + j) ≡ false;
}

abbrev pub decreases-loop-out : goal.decreases-loop-out
decreases-loop-out l = l.rest - l.out
