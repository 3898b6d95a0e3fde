use Rattle.std.proofs.Common.{◌≡◌, ◌+◌, ◌<◌, true, All, IfSome}
use Rattle.ics_rule.specs.Cursors.{place_of, IsCursorOf}
use Rattle.ics_rule.specs.Kept.{is_kept}
use Rattle.ics_zone.specs.Inner.OnsetSets.{Has, IsGap}
use Rattle.ics_zone.proofs.onsets.Onsets.list_gaps.Given as goal

abbrev pub invariant-loop-kept : goal.invariant-loop-kept
invariant-loop-kept l = record {
  all : All (IsGap (Has l.self)) l.gaps.items;
  own : IsCursorOf l.rule l.cursor;
  kept : IfSome l.kept (λ n. (is_kept l.rule n ≡ true) × ((n < l.end) × (place_of l.cursor ≡ n + 1)));
}

abbrev pub decreases-loop-kept : goal.decreases-loop-kept
decreases-loop-kept l = l.left
