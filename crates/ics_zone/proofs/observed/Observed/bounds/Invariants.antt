use Rattle.std.proofs.Common.{ℕ, ◌<◌, pos, neg_ℤ, ◌≤ℤ◌, get_or}
use Rattle.jiff_core.specs.Calendar.{IsBetween}
use Rattle.ics_zone.proofs.observed.Observed.bounds.Given as goal

abbrev pub invariant-loop-offset : goal.invariant-loop-offset
invariant-loop-offset l = record {
  between : (k : ℕ) → k < l.offset-index → IsBetween l.least l.most (get_or l.offset-items k (pos 0));
  least : l.least ≤ℤ pos 86_399;
  most : neg_ℤ (pos 86_399) ≤ℤ l.most;
}
