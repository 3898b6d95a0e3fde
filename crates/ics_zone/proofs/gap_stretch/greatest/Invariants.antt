use Rattle.std.proofs.Common.{ℕ, ◌<◌, pos, ◌≤ℤ◌, get_or}
use Rattle.ics_zone.proofs.gap_stretch.greatest.Given as goal

abbrev pub invariant-loop-offset : goal.invariant-loop-offset
invariant-loop-offset l = (k : ℕ) → k < l.offset-index → get_or l.fn.offsets k (pos 0) ≤ℤ l.most
