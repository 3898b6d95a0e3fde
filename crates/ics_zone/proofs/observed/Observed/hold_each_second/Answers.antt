use Rattle.std.proofs.Common.{is_ok}
use Rattle.ics_zone.proofs.JumpLemmas.{each_more}
use Rattle.ics_zone.proofs.observed.Observed.hold_each_second.Goals as goal

pub invariant_of-self : goal.invariant_of-self
invariant_of-self c =
    let known = rw c.self.view_is at c.self.invariant in
    rw c.self.view_is (each_more c.args.each_second (is_ok c.push.result) c.push.ensures.items known c.requires)
