use Rattle.std.proofs.Common.{arith, w64}
use Rattle.std.proofs.lemmas.Int.{to_z-of_z}
use Rattle.ics_zone.proofs.MarkLemmas.{none_marked}
use Rattle.ics_zone.proofs.onsets.Onsets.within.Goals as goal

pub returns-in-None-clause-known : goal.returns-in-None-clause-known
returns-in-None-clause-known c = λ k low m.
    let known = rw (to_z-of_z w64 c.args.from c.ranges.from) at c.mark_each-in-None.ensures.known k m in
    let none = none_marked 60 k in
    grind arith
