use Rattle.std.proofs.Common.{◌≡◌, ◌⊎◌, ℕ, ℤ, length, slice_index_or, ◌<◌, ◌≤◌}
use Rattle.ics_zone.specs.declared.walk.Seen.{Seen}
use Rattle.ics_zone.specs.Inner.Sweeps.{IsToldOn}
use Rattle.ics_zone.proofs.sweep.see_each.Given as goal

abbrev pub invariant-loop-k : goal.invariant-loop-k
invariant-loop-k l = record {
  begun : l.fn.begin ≤ l.k;
  bound : (l.k ≤ l.fn.end) ⊎ (l.k ≤ l.fn.begin);
  long : length l.seen ≡ length l.fn.seen;
  others : (k : ℕ) (e : Seen) → (k < l.fn.begin) ⊎ (l.k ≤ k) → slice_index_or l.seen k e ≡ slice_index_or l.fn.seen k e;
  told : (k : ℕ) (d : ℤ) (e : Seen) → l.fn.begin ≤ k → k < l.k
      → IsToldOn l.fn.span l.fn.before (slice_index_or l.fn.locals k d) (slice_index_or l.fn.seen k e) (slice_index_or l.seen k e);
}
