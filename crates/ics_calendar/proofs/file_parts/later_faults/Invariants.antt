use Rattle.std.proofs.Common.{◌≡◌, ℕ, ◌<◌, get_or, length, take, None}
use Rattle.ics_calendar.specs.Inner.SoundParts.{later_of}
use Rattle.ics_calendar.specs.ZoneTables.{known_by}
use Rattle.ics_calendar.proofs.file_parts.later_faults.Given as goal

-- the first faults of the parts by the events so far
abbrev pub invariant-loop-sound : goal.invariant-loop-sound
invariant-loop-sound l = record {
  count : length l.later.items ≡ length l.faults;
  each : (part : ℕ) → part < length l.faults → get_or l.later.items part None ≡ later_of (known_by l.table) (take l.sound-index l.events) part;
}
