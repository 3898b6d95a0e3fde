use Rattle.std.proofs.lemmas.Grind.{common_steps}
use Rattle.std.proofs.Common.{arith}
use Rattle.std.proofs.lemmas.Int.{ints}
use Rattle.ics_listing.specs.StartTimes.{time_of}
use Rattle.ics_listing.proofs.StartOrderLemmas.{rdate-time}
use Rattle.ics_starts.proofs.InstantLemmas.{late}
use Rattle.ics_starts.proofs.occurrence.met_by.Goals as goal

pub invariant_of-occurrence : goal.invariant_of-occurrence
invariant_of-occurrence c =
    let from = late c.args.zones (time_of c.args.start.given) (rdate-time c.args.start.given c.requires.start.value) in
    record {
      not_early = omega (arith, ints, c.requires.start.moment, from);
      forward = omega (arith, ints, c.finish_by.ensures.forward);
      not_late = omega (arith, ints, c.finish_by.ensures.early);
    }

pub returns-then-start-window : goal.returns-then-start-window
returns-then-start-window c = grind (arith, ints, common_steps)
