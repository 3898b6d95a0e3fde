use Rattle.std.proofs.Common.{◌≡◌, drop}
use Rattle.ics_calendar.specs.Settled.{first_judged}
use Rattle.ics_calendar.specs.ZoneTables.{known_by}
use Rattle.ics_calendar.proofs.judged.first_judged.Given as goal

abbrev pub invariant-loop-deferred : goal.invariant-loop-deferred
invariant-loop-deferred l = first_judged (known_by l.table) (drop l.deferred-index l.checks) ≡ first_judged (known_by l.table) l.checks
