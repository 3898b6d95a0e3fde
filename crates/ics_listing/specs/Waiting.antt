-- Starts that wait, in the order of their instants.
use Rattle.std.specs.Prelude.{List, map}
use Rattle.ics_event.specs.Event.{Time}
use Rattle.ics_values.specs.declared.time.Rdate.TheVariants.{At}
use Rattle.ics_listing.specs.declared.queue.Queue.{Queue}
use Rattle.ics_listing.specs.declared.queue.Waiting.{Waiting}
use Rattle.ics_listing.specs.declared.start.Start.{Start}
use Rattle.ics_listing.specs.declared.start.StartSource.TheVariants.{Kept}
use Rattle.ics_listing.specs.StartTimes.{time_at}
use Rattle.ics_listing.specs.WaitingOrder.{between_in, in_order}
pub use Rattle.ics_listing.specs.WaitingOrder.{waiting_cmp}

-- what waits in a queue
abbrev pub waiting_in : Queue → List Waiting
waiting_in q = in_order q.line.items (between_in q.between.entries)

-- the start that the local of a waiting one gives an event with this DTSTART
abbrev pub start_of : Time → Waiting → Start
start_of first w = record { moment = w.moment; source = Kept w.local; given = At (time_at first w.local) }

-- the starts that wait in a queue
abbrev pub starts_in : Time → Queue → List Start
starts_in first q = map (start_of first) (waiting_in q)
