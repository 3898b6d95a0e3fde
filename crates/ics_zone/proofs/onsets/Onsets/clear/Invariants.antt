use Rattle.std.proofs.Common.{◌≡◌, ℕ, ◌*◌, ◌<◌, length}
use Rattle.ics_zone.specs.Inner.Marks.{IsMarked, AreMarks}
use Rattle.ics_zone.proofs.onsets.Onsets.clear.Given as goal

abbrev pub invariant-loop-minute : goal.invariant-loop-minute
invariant-loop-minute l = record {
  length : length l.over ≡ 60;
  marks : AreMarks l.self l.fn.seconds l.fn.from l.initial.over l.over;
  clear : (k : ℕ) → k < l.minute * 60 → IsMarked l.onsets k → IsMarked l.over k;
}
