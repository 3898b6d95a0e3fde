use Rattle.std.proofs.Common.{◌≡◌, ℕ, ◌%◌, ◌<◌, true, length, slice_index_or}
use Rattle.ics_fields.specs.Sets.{contains}
use Rattle.ics_period.proofs.steps.classes_of.Given as goal

abbrev pub invariant-loop-second : goal.invariant-loop-second
invariant-loop-second l = record {
  size : length l.classes ≡ 60;
  members : (s : ℕ) → s < l.second → contains l.seconds s ≡ true → contains (slice_index_or l.classes (s % l.divisor) 0) s ≡ true;
}
