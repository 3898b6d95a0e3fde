use Rattle.std.proofs.Common.{◌≡◌, ◌++◌, map, take, drop}
use Rattle.ics_event.specs.Kept.{kept_event}
use Rattle.ics_file.proofs.events.keep_texts.Given as goal

abbrev pub invariant-loop-event : goal.invariant-loop-event
invariant-loop-event l =
    l.events ≡ map (kept_event l.keep) (take l.event-index l.fn.events) ++ drop l.event-index l.fn.events
