use Rattle.std.proofs.Common.{◌∙◌, sym}
use Rattle.ics_starts.proofs.FindLemmas.{found-placed}
use Rattle.ics_starts.proofs.kept_locals.KeptLocals.learn.Goals as goal

pub invariant_of-self : goal.invariant_of-self
invariant_of-self c =
    let s = c.args.self.now in
    let step = rw c.get-3.ensures at c.next-local.ensures.step in
    let from = sym c.hold.ensures.place ∙ c.hold.new.self.placed in
    let find = found-placed s.rule c.next-local.result from c.next-local.new.self.placed step.found in
    record { of = s.of; known_are = c.push.ensures s.rule s.known_are find; found_are = s.found_are; counts = s.counts; own = step.own }
