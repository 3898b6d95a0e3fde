use Rattle.std.specs.Prelude.{◌≡◌, ◌≤ℤ◌, ◌<ℤ◌, ◌-ℤ◌, ℤ, true, unsigned_abs}
use Rattle.ics_starts.specs.Exclusions.{is_among}
use Rattle.ics_starts.proofs.exclusion.Exclusions.run_end.Given as goal

-- the days from the first on and before this one are removed
abbrev pub invariant-loop-day : goal.invariant-loop-day
invariant-loop-day l = record {
  on : l.first ≤ℤ l.day;
  within : l.day ≤ℤ l.last;
  removed : (d : ℤ) → l.first ≤ℤ d → d <ℤ l.day → is_among l.self.days.items d ≡ true;
}

abbrev pub decreases-loop-day : goal.decreases-loop-day
decreases-loop-day l = unsigned_abs (l.last -ℤ l.day)
