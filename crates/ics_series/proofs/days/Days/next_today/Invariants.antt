use Rattle.std.proofs.Common.{◌≡◌, List, length}
use Rattle.ics_series.specs.Ahead.{agenda_coming, scope_of, IsAhead}
use Rattle.ics_listing.specs.DayKeys.{OnDay}
use Rattle.ics_series.proofs.days.Days.next_today.Given as goal

-- what is skipped is none of the day's
abbrev pub invariant-loop-occurrence : goal.invariant-loop-occurrence
invariant-loop-occurrence l = record {
  day : l.self.today.day ≡ l.fn.self.today.day;
  scope : scope_of l.self ≡ scope_of l.fn.self;
  last : l.self.last ≡ l.fn.self.last;
  looked : l.self.today.looked ≡ l.fn.self.today.looked;
  ahead : (list : List OnDay) → IsAhead l.fn.self list → IsAhead l.self list;
}

abbrev pub decreases-loop-occurrence : goal.decreases-loop-occurrence
decreases-loop-occurrence l = length (agenda_coming l.self.today.agenda)
