use Rattle.std.proofs.Common.{◌≡◌, take, fold}
use Rattle.ics_calendar.specs.Inner.PartsRead.{number_with}
use Rattle.ics_calendar.proofs.rising.number_at_end.Given as goal

abbrev pub invariant-loop-byte : goal.invariant-loop-byte
invariant-loop-byte l = l.number ≡ fold number_with 0 (take l.byte-index l.text)
