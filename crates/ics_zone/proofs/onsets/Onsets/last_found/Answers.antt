use Rattle.std.proofs.Common.{rules, arith, w64}
use Rattle.std.proofs.lemmas.Int.{to_z-of_z}
use Rattle.ics_zone.proofs.LatestLemmas.{none_listed, last_listed}
use Rattle.ics_zone.proofs.FoundLemmas.{found_of}
use Rattle.ics_zone.proofs.onsets.Onsets.last_found.Goals as goal

pub returns-then-passed-eq0 : goal.returns-then-passed-eq0
returns-then-passed-eq0 c =
    let passed = rw (c.deref.ensures.value, to_z-of_z w64 c.args.moment c.ranges.moment) at c.passed-passed.ensures in
    none_listed c.args.self.now.found.items (found_of c.args.self.now c.requires.found).in_order c.args.moment _ passed c.if-passed-eq0.true

pub returns-else-passed-eq0 : goal.returns-else-passed-eq0
returns-else-passed-eq0 c =
    let passed = rw (c.deref.ensures.value, to_z-of_z w64 c.args.moment c.ranges.moment) at c.passed-passed.ensures in
    rw (to_z-of_z w64 c.index.result.now (search rules))
    (last_listed c.args.self.now.found.items (found_of c.args.self.now c.requires.found).in_order c.args.moment _ passed (omega arith) c.index.result.now
    c.index.ensures)

pub passed-passed-requires : goal.passed-passed-requires
passed-passed-requires c = rw c.deref.ensures.value (found_of c.args.self.now c.requires.found).in_order
