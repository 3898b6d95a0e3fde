use Rattle.std.proofs.Common.{◌≡◌, ◌∙◌, sym, arith}
use Rattle.ics_rule.specs.Cursors.{place_of}
use Rattle.ics_starts.proofs.FindLemmas.{found-placed, step-on}
use Rattle.ics_starts.proofs.kept_locals.KeptLocals.count.Goals as goal

pub invariant_of-self : goal.invariant_of-self
invariant_of-self c =
    let s = c.found_to-to.new.self in
    let to = c.found_to-to.ensures in
    let next = rw c.get-2.ensures at c.next-local.ensures.step in
    let same = sym c.found_to-to.new.cursor.placed ∙ (to.place ∙ c.next-local.new.self.placed) in
    let step = step-on c.args.self.now.rule c.next-local.result same to.own to.looked next in
    let passed = rw c.get.ensures at c.pass.ensures.looked in
    let from : c.args.cursor.now.place ≡ place_of c.pass.new.self.cursor = sym c.pass.ensures.place ∙ c.pass.new.self.placed in
    let begun = c.args.counting.placed in
    record {
      of = s.of;
      known_are = s.known_are;
      found_are = c.note.ensures s.rule s.found_are (rw to.rule to.found);
      counts = rw to.rule (record {
        own = step.own;
        looked = λ from_local b l.
            step.looked from_local b l
            (passed _ b (c.requires.counting.looked from_local b (omega (arith, l, step.later, from, begun, c.requires.behind))));
      });
      own = s.own;
    }

pub returns-clause-step : goal.returns-clause-step
returns-clause-step c =
    let to = c.found_to-to.ensures in
    let next = rw c.get-2.ensures at c.next-local.ensures.step in
    let same = sym c.found_to-to.new.cursor.placed ∙ (to.place ∙ c.next-local.new.self.placed) in
    let step = step-on c.args.self.now.rule c.next-local.result same to.own to.looked next in
    let passed = rw c.get.ensures at c.pass.ensures.looked in
    let from : c.args.cursor.now.place ≡ place_of c.pass.new.self.cursor = sym c.pass.ensures.place ∙ c.pass.new.self.placed in
    let begun = c.args.counting.placed in
    let placed = sym c.args.cursor.now.placed ∙ from in
    record {
      found = found-placed c.args.self.now.rule c.next-local.result placed (λ i. place_of c.found_to-to.new.cursor.cursor) step.found;
      later = omega (arith, step.later, placed);
      within = step.within;
      own = step.own;
      looked = λ from_local b l h.
          step.looked from_local b l
          (passed _ b (c.requires.counting.looked from_local b (omega (arith, l, step.later, from, begun, c.requires.behind))));
    }
