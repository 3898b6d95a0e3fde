use Rattle.std.proofs.Common.{◌≡◌, ◌≤◌, ◌-ℤ◌, unsigned_abs, List}
use Rattle.ics_series.specs.Ahead.{scope_of, IsAhead}
use Rattle.ics_listing.specs.DayKeys.{OnDay}
use Rattle.ics_series.proofs.days.Days.next.Given as goal

-- the days before have nothing more
abbrev pub invariant-loop-occurrence : goal.invariant-loop-occurrence
invariant-loop-occurrence l = record {
  scope : scope_of l.self ≡ scope_of l.initial.self;
  last : l.self.last ≡ l.initial.self.last;
  looked : l.initial.self.today.looked ≤ l.self.today.looked;
  ahead : (list : List OnDay) → IsAhead l.initial.self list → IsAhead l.self list;
}

abbrev pub decreases-loop-occurrence : goal.decreases-loop-occurrence
decreases-loop-occurrence l = unsigned_abs (l.self.last -ℤ l.self.today.day)
