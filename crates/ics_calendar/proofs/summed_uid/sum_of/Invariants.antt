use Rattle.std.proofs.Common.{◌≡◌, take, fold}
use Rattle.ics_calendar.specs.Inner.SummedUids.{sum_with}
use Rattle.ics_calendar.proofs.summed_uid.sum_of.Given as goal

abbrev pub invariant-loop-byte : goal.invariant-loop-byte
invariant-loop-byte l = l.sum ≡ fold sum_with 0 (take l.byte-index l.text)
