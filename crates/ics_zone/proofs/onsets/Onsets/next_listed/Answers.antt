use Rattle.std.proofs.lemmas.Grind.{common_steps}
use Rattle.std.proofs.Common.{rules, arith, w64, length, ◌<◌, ◌≡◌, sym}
use Rattle.std.proofs.lemmas.Int.{ints, clamps, to_z-of_z}
use Rattle.ics_zone.proofs.LatestLemmas.{next_listed}
use Rattle.ics_zone.proofs.onsets.Onsets.next_listed.Goals as goal

pub returns : goal.returns
returns c =
    let passed = rw c.deref.ensures.value at (simp (to_z-of_z, c.ranges.after) at c.passed-passed.ensures) in
    let inside : c.passed-passed.result < length c.args.self.now.listed.items = search rules in
    let late = passed.later c.passed-passed.result c.index.result.now (omega arith) inside in
    rw (to_z-of_z w64 c.min.result (search rules)) (record {
      after = omega (arith, ints, clamps);
      bound = omega (arith, ints, clamps);
      next = λ t h l.
          let low = next_listed c.args.self.now.listed.items c.requires.sound.in_order c.args.after c.passed-passed.result passed c.index.result.now inside
          c.index.ensures t h l in
          omega (arith, ints, clamps);
      is = λ less.
          let same : c.min.result ≡ c.index.result.now = omega (arith, ints, clamps) in
          rw same (c.passed-passed.result, inside, sym c.index.ensures);
    })

pub returns-then-passed-len : goal.returns-then-passed-len
returns-then-passed-len c = rw (to_z-of_z w64 c.args.limit c.ranges.limit)
    (record { after = c.requires.limit; bound = omega (arith, ints); next = grind (arith, common_steps); is = λ less. absurd (omega (arith, ints)) })
