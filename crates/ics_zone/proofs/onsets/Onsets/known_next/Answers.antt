use Rattle.std.proofs.Common.{rules, arith, w64, length, ◌<◌}
use Rattle.std.proofs.lemmas.Int.{ints, to_z-of_z}
use Rattle.ics_zone.proofs.FoundLemmas.{found_of, known_next, known_end}
use Rattle.ics_zone.proofs.onsets.Onsets.known_next.Goals as goal

pub returns-then-passed-len : goal.returns-then-passed-len
returns-then-passed-len c =
    let passed = rw c.deref.ensures.value at (simp (to_z-of_z, c.ranges.after) at c.passed-passed.ensures) in
    let inside : c.passed-passed.result < length c.args.self.now.found.items = search rules in
    let late = passed.later c.passed-passed.result c.index.result.now (omega arith) inside in
    rw (to_z-of_z w64 c.index.result.now (search rules)) (record {
      after = omega (arith, ints);
      next = known_next c.args.self.now c.requires.sound c.args.after c.requires.to c.requires.from c.passed-passed.result passed c.index.result.now inside
          c.index.ensures;
    })

pub returns-else-passed-len : goal.returns-else-passed-len
returns-else-passed-len c =
    let passed = rw c.deref.ensures.value at (simp (to_z-of_z, c.ranges.after) at c.passed-passed.ensures) in
    rw (to_z-of_z w64 c.args.self.now.known_to (search rules)) (record {
      after = c.requires.to;
      next = known_end c.args.self.now c.requires.sound c.args.after c.requires.to c.requires.from c.passed-passed.result passed
          (omega (arith, c.if-passed-len.false));
    })

pub passed-passed-requires : goal.passed-passed-requires
passed-passed-requires c = rw c.deref.ensures.value (found_of c.args.self.now c.requires.sound.found).in_order
