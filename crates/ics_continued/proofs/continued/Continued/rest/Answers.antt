use Rattle.ics_continued.proofs.ContinuedLemmas.{moved-on}
use Rattle.ics_continued.proofs.continued.Continued.rest.Goals as goal

pub invariant_of-self : goal.invariant_of-self
invariant_of-self c =
    let s = moved-on c.args.self.now c.rest.new.self c.rest.ensures.same c.rest.ensures.coming in
    record { rising = s.rising; kept = s.kept; done = s.done; before = s.before; later = s.later; begun = s.begun }
