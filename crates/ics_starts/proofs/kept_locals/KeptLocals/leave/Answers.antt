use Rattle.std.proofs.Common.{subst, sym}
use Rattle.ics_starts.specs.Inner.KeptFinds.{AreFinds}
use Rattle.ics_starts.proofs.FindLemmas.{find-in}
use Rattle.ics_starts.proofs.kept_locals.KeptLocals.leave.Goals as goal

pub invariant_of-self : goal.invariant_of-self
invariant_of-self c =
    let s = c.args.self.now in
    let are = subst (AreFinds s.rule) (sym c.deref.ensures.value) s.known_are in
    record {
      of = s.of;
      known_are = s.known_are;
      found_are = c.note.ensures s.rule s.found_are (find-in s.rule c.deref.result.now _ c.in-Some.find are c.in-Some.ensures);
      counts = s.counts;
      own = s.own;
    }
