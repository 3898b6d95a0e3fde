use Rattle.std.specs.Prelude.{◌≤ℤ◌, ◌-ℤ◌, unsigned_abs}
use Rattle.ics_starts.specs.RuleFeed.{AreTakenOut, HasStayed}
use Rattle.ics_starts.proofs.rule_starts.RuleStarts.removed_to.Given as goal

-- of the next locals, what those before this one give is removed
abbrev pub invariant-loop-to : goal.invariant-loop-to
invariant-loop-to l = record {
  same : HasStayed l.initial.self l.self;
  on : l.initial.self.next ≤ℤ l.to;
  removed : AreTakenOut l.exclusions.instants.items l.exclusions.days.items l.initial.self l.initial.self.next l.to;
}

abbrev pub decreases-loop-to : goal.decreases-loop-to
decreases-loop-to l = unsigned_abs (l.end -ℤ l.to)
