use Rattle.std.proofs.Common.{◌≡◌, ℕ, ◌⊎◌, length, pos, ◌+ℤ◌, ◌-ℤ◌, ◌<ℤ◌, ◌≤ℤ◌}
use Rattle.ics_zone.specs.ZoneOffsets.{natural}
use Rattle.ics_zone.specs.Inner.OnsetSets.{Has}
use Rattle.ics_zone.specs.Inner.Marks.{IsMarked, IsAsked}
use Rattle.ics_zone.proofs.onsets.Onsets.mark_each.Given as goal

abbrev pub invariant-loop-at : goal.invariant-loop-at
invariant-loop-at l = record {
  length : length l.marks ≡ 60;
  low : l.fn.from ≤ℤ l.at;
  high : l.at ≤ℤ (l.fn.from +ℤ pos 3_600);
  is : l.at <ℤ (l.fn.from +ℤ pos 3_600) → Has l.self l.at;
  known : (k : ℕ) → IsMarked l.marks k → IsMarked l.initial.marks k ⊎ Has l.self (l.fn.from +ℤ pos k);
  stay : (k : ℕ) → IsMarked l.initial.marks k → IsMarked l.marks k;
  complete : (k : ℕ) → (l.fn.from +ℤ pos k) <ℤ l.at → IsAsked l.self l.fn.with_rule (l.fn.from +ℤ pos k) → IsMarked l.marks k;
}

abbrev pub decreases-loop-at : goal.decreases-loop-at
decreases-loop-at l = natural ((l.fn.from +ℤ pos 3_600) -ℤ l.at)
