-- The next kept local.
use Rattle.std.specs.Prelude.{◌≡◌, ℕ, ◌<◌, ◌≤◌, true, false}
use Rattle.ics_period.specs.Recurrence.{Recurrence}
use Rattle.ics_rule.specs.Kept.{is_kept}

-- no local from a place on and before a bound is kept
abbrev pub NoneKept : Recurrence → ℕ → ℕ → Type 0
NoneKept r from before = (n : ℕ) → from ≤ n → n < before → is_kept r n ≡ false

-- n is the least kept local from a place on and before a bound
pub record IsNextKept (r : Recurrence) (from before n : ℕ) : Type 0 where
  pub kept : is_kept r n ≡ true
  pub from_place : from ≤ n
  pub in_bound : n < before
  pub least : NoneKept r from n
