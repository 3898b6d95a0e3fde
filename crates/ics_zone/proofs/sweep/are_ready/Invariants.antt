use Rattle.std.proofs.Common.{ℕ, ℤ, pos, slice_index_or, ◌<◌, ◌≤◌, ◌+ℤ◌, ◌≤ℤ◌}
use Rattle.ics_zone.specs.Seconds.{IsMoment}
use Rattle.ics_zone.proofs.sweep.are_ready.Given as goal

abbrev pub invariant-loop-k : goal.invariant-loop-k
invariant-loop-k l = record {
  last : (j : ℕ) (d : ℤ) → j < l.k → slice_index_or l.locals j d ≤ℤ l.last;
  in_order : (j k : ℕ) (d : ℤ) → j ≤ k → k < l.k → slice_index_or l.locals j d ≤ℤ slice_index_or l.locals k d;
  begun : (l.fn.from +ℤ pos 86_400) ≤ℤ l.last;
  late : (j : ℕ) (d : ℤ) → j < l.k → (l.fn.from +ℤ pos 86_400) ≤ℤ slice_index_or l.locals j d;
  moments : (j : ℕ) (d : ℤ) → j < l.k → IsMoment (slice_index_or l.locals j d);
}
