use Rattle.ics_starts.proofs.kept_locals.KeptLocals.search.Goals as goal

pub invariant_of-self : goal.invariant_of-self
invariant_of-self c =
    let s = c.found_to-to.new.self in
    record {
      of = s.of;
      known_are = s.known_are;
      found_are = c.note.ensures s.rule s.found_are (rw c.found_to-to.ensures.rule c.found_to-to.ensures.found);
      counts = s.counts;
      own = s.own;
    }
