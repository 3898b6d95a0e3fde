use Rattle.std.proofs.Common.{arith, subst}
use Rattle.std.proofs.lemmas.Int.{ints}
use Rattle.ics_event.specs.Event.{IsSpan}
use Rattle.ics_starts.proofs.InstantLemmas.{early, late}
use Rattle.ics_starts.proofs.finish.span_end.Goals as goal

pub later_by-requires-clause-late : goal.later_by-requires-clause-late
later_by-requires-clause-late c =
    let from = late c.args.zones c.args.given c.requires.given.is_time in
    omega (arith, ints, c.requires.start, from)

pub returns-in-Until-clause-early : goal.returns-in-Until-clause-early
returns-in-Until-clause-early c =
    let end = early c.args.zones c.in-Until.end (subst IsSpan c.in-Until.is c.requires.span) in
    omega (arith, ints, c.instant.ensures, end)
