use Rattle.std.proofs.Common.{◌≡◌, ℕ, ◌+◌, ◌*◌, ◌<◌, ◌&&◌, length, pos, int_lt}
use Rattle.ics_zone.specs.Inner.Hours.{keeps}
use Rattle.ics_zone.specs.Inner.Marks.{is_marked}
use Rattle.ics_zone.proofs.hours.Hours.words.Given as goal

abbrev pub invariant-loop-minute : goal.invariant-loop-minute
invariant-loop-minute l = record {
  length : length l.words ≡ 60;
  words : (k : ℕ) → k < l.minute * 60 → is_marked l.words k ≡ (int_lt (pos k) l.fn.count && keeps l.self (l.fn.local + k));
}
