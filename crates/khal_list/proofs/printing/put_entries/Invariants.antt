use Rattle.std.proofs.Common.{List}
use Rattle.std.specs.Option.{option_map}
use Rattle.ics_listing.specs.DayKeys.{day_rank_of, on_day_of, OnDay}
use Rattle.khal_list.specs.Listed.{style_of}
use Rattle.khal_list.proofs.Printed.{Printed}
use Rattle.khal_list.proofs.printing.put_entries.Given as goal

-- of each list that was to come the first entries are written, and the others are to come
abbrev pub invariant-loop-count : goal.invariant-loop-count
invariant-loop-count g l = record {
  printed : (list : List OnDay) → g.D.Draws.comes l.draws l.fn.source list
      → (coming : List OnDay) × g.D.Draws.comes l.draws l.source coming
      × Printed (style_of l.request) l.request.limit list coming (g.O.Sink.taken l.fn.out) (g.O.Sink.taken l.out)
      l.before l.left (option_map (λ given. day_rank_of (on_day_of given)) l.last);
}
