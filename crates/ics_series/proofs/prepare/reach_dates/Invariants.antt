use Rattle.std.proofs.Common.{◌≡◌}
use Rattle.ics_file.specs.declared.events.FileEvents.{FileEvents}
use Rattle.ics_series.proofs.prepare.reach_dates.Given as goal

abbrev pub invariant-loop-k : goal.invariant-loop-k
invariant-loop-k l =
    let file : FileEvents = record { zones = l.file-inside.zones.items; events = l.file-inside.events.items } in
    file ≡ l.fn.file
