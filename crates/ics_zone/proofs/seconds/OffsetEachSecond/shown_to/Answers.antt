use Rattle.std.proofs.Common.{rules, ◌≡◌, ◌+ℤ◌, ◌-ℤ◌, ◌≤ℤ◌, SFits, w32, w64}
use Rattle.std.proofs.lemmas.Int.{to_z-of_z}
use Rattle.ics_zone.proofs.EachSecondLemmas.{instant_between, shown_between}
use Rattle.ics_zone.proofs.seconds.OffsetEachSecond.shown_to.Goals as goal

pub returns-clause-from : goal.returns-clause-from
returns-clause-from c =
    let begin : c.instant_at-begin.result ≡ c.args.from -ℤ c.args.offset = simp (to_z-of_z, c.ranges.from, c.ranges.offset) at c.instant_at-begin.ensures in
    let end : c.instant_at-end.result ≡ c.args.to -ℤ c.args.offset = simp (to_z-of_z, c.ranges.to, c.ranges.offset) at c.instant_at-end.ensures in
    let low : c.instant_at-begin.result ≤ℤ c.same_to-last.result =
    rw (to_z-of_z w64 c.instant_at-begin.result (search rules)) at c.same_to-last.ensures.from in
    let high : c.same_to-last.result ≤ℤ c.instant_at-end.result =
    rw (to_z-of_z w64 c.instant_at-end.result (search rules)) at c.same_to-last.ensures.end in
    let last : SFits w64 c.same_to-last.result = search rules in
    let local : c.local_at.result ≡ c.same_to-last.result +ℤ c.args.offset = simp (to_z-of_z, last, c.ranges.offset) at c.local_at.ensures in
    rw (to_z-of_z w64 c.local_at.result (search rules)) ((shown_between c.args.offset begin end low high local).0)

pub returns-clause-to : goal.returns-clause-to
returns-clause-to c =
    let begin : c.instant_at-begin.result ≡ c.args.from -ℤ c.args.offset = simp (to_z-of_z, c.ranges.from, c.ranges.offset) at c.instant_at-begin.ensures in
    let end : c.instant_at-end.result ≡ c.args.to -ℤ c.args.offset = simp (to_z-of_z, c.ranges.to, c.ranges.offset) at c.instant_at-end.ensures in
    let low : c.instant_at-begin.result ≤ℤ c.same_to-last.result =
    rw (to_z-of_z w64 c.instant_at-begin.result (search rules)) at c.same_to-last.ensures.from in
    let high : c.same_to-last.result ≤ℤ c.instant_at-end.result =
    rw (to_z-of_z w64 c.instant_at-end.result (search rules)) at c.same_to-last.ensures.end in
    let last : SFits w64 c.same_to-last.result = search rules in
    let local : c.local_at.result ≡ c.same_to-last.result +ℤ c.args.offset = simp (to_z-of_z, last, c.ranges.offset) at c.local_at.ensures in
    rw (to_z-of_z w64 c.local_at.result (search rules)) ((shown_between c.args.offset begin end low high local).1)

pub returns-clause-same : goal.returns-clause-same
returns-clause-same c = λ clock told of from to.
    let begin : c.instant_at-begin.result ≡ c.args.from -ℤ c.args.offset = simp (to_z-of_z, c.ranges.from, c.ranges.offset) at c.instant_at-begin.ensures in
    let last : SFits w64 c.same_to-last.result = search rules in
    let local : c.local_at.result ≡ c.same_to-last.result +ℤ c.args.offset = simp (to_z-of_z, last, c.ranges.offset) at c.local_at.ensures in
    let within = instant_between c.args.offset begin local from (rw (to_z-of_z w64 c.local_at.result (search rules)) at to) in
    simp (to_z-of_z w32 c.args.offset c.ranges.offset) at (c.same_to-last.ensures.same clock told (of -ℤ c.args.offset)
    (rw (to_z-of_z w64 c.instant_at-begin.result (search rules)) (within.0)) (within.1))
