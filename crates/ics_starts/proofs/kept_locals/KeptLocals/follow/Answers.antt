use Rattle.ics_starts.proofs.kept_locals.KeptLocals.follow.Goals as goal

pub invariant_of-self : goal.invariant_of-self
invariant_of-self c =
    let s = c.args.self.now in
    record { of = s.of; known_are = s.known_are; found_are = c.note.ensures s.rule s.found_are c.requires.find; counts = s.counts; own = s.own }
