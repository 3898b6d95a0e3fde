use Rattle.std.proofs.Common.{◌≡◌}
use Rattle.ics_calendar.proofs.file_parts.in_list.Given as goal

abbrev pub invariant-loop-fault : goal.invariant-loop-fault
invariant-loop-fault l = l.list.items ≡ l.yielded
