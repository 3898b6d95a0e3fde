use Rattle.std.proofs.Common.{length, arith, subst}
use Rattle.std.proofs.lemmas.Int.{ints, int_max_is}
use Rattle.ics_event.specs.Event.{RdateBelow}
use Rattle.ics_listing.specs.StartTimes.{time_of}
use Rattle.ics_listing.specs.declared.start.Start.{Start}
use Rattle.ics_starts.specs.declared.zones.FileZones.{FileZones}
use Rattle.ics_starts.specs.FileZones.{IsTimeOf}
use Rattle.ics_starts.specs.Found.{IsStartIn}
use Rattle.ics_listing.proofs.StartOrderLemmas.{rdate-below, rdate-time}
use Rattle.ics_starts.proofs.finish.finish.Goals as goal
use Rattle.ics_starts.proofs.finish.finish.Goals.{in-At, in-Span}

given-in : {zones : FileZones} {s : Start} → IsStartIn zones s → IsTimeOf zones.zones.now (time_of s.given)
given-in {zones = zones} {s = s} k = record { is_time = rdate-time s.given k.value; within = rdate-below (length zones.zones.now) s.given k.below }

pub end_by-end-requires-clause-given : goal.end_by-end-requires-clause-given
end_by-end-requires-clause-given c = subst (λ given. IsTimeOf c.args.zones.zones.now (time_of given)) c.in-At.is (given-in c.requires.start)

pub span_end-end-requires-clause-given : goal.span_end-end-requires-clause-given
span_end-end-requires-clause-given c = subst (λ given. IsTimeOf c.args.zones.zones.now (time_of given)) c.in-Span.is (given-in c.requires.start)

pub span_end-end-requires-clause-end : goal.span_end-end-requires-clause-end
span_end-end-requires-clause-end c = (subst (RdateBelow (length c.args.zones.zones.now)) c.in-Span.is c.requires.start.below).1

pub returns-clause-early : goal.returns-clause-early
returns-clause-early c =
    let m = c.max in
    elim c.match-start.branch [
      | in-At w ↦ omega
          (arith, ints, m.type_inv, m.ensures.value, c.match-start.end-is, w.end-is, w.end_by-end.ensures.early, c.requires.early, int_max_is)
      | in-Span w ↦ omega
          (arith, ints, m.type_inv, m.ensures.value, c.match-start.end-is, w.end-is, w.span_end-end.ensures.early, c.requires.early, int_max_is)
    ]
