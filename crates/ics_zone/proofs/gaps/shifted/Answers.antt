use Rattle.std.proofs.Common.{rules, SFits, w64}
use Rattle.std.proofs.lemmas.Int.{to_z-of_z}
use Rattle.ics_zone.proofs.RepeatLemmas.{next_about, next_by, next_to}
use Rattle.ics_zone.proofs.gaps.shifted.Goals as goal

pub returns-clause-next : goal.returns-clause-next
returns-clause-next c =
    let next : SFits w64 c.args.gap.next = search rules in
    let far : SFits w64 c.min-far.result = search rules in
    let one : SFits w64 c.later_by.result = search rules in
    let two : SFits w64 c.later_by-2.result = search rules in
    rw (to_z-of_z w64 c.min-next.result (search rules))
    (next_by c.args.gap.next c.min-far.result c.args.back c.later_by.result c.later_by-2.result c.min-next.result
    (simp (to_z-of_z, next) at c.min-far.ensures.value) (simp (to_z-of_z, far, c.ranges.back) at c.later_by.ensures)
    (simp (to_z-of_z, one, two) at c.min-next.ensures.value))

pub returns-clause-to : goal.returns-clause-to
returns-clause-to c =
    let end : SFits w64 c.min-end.result = search rules in
    let one : SFits w64 c.later_by.result = search rules in
    let two : SFits w64 c.later_by-2.result = search rules in
    rw (to_z-of_z w64 c.min-next.result (search rules))
    (next_to c.args.to c.min-end.result c.later_by.result c.later_by-2.result c.min-next.result
    (simp (to_z-of_z, c.ranges.to) at c.min-end.ensures.value) (simp (to_z-of_z, end) at c.later_by-2.ensures)
    (simp (to_z-of_z, one, two) at c.min-next.ensures.value))

pub returns-clause-about : goal.returns-clause-about
returns-clause-about c =
    let next : SFits w64 c.args.gap.next = search rules in
    let far : SFits w64 c.min-far.result = search rules in
    let end : SFits w64 c.min-end.result = search rules in
    let one : SFits w64 c.later_by.result = search rules in
    let two : SFits w64 c.later_by-2.result = search rules in
    rw (to_z-of_z w64 c.min-next.result (search rules))
    (next_about c.args.gap.next c.min-far.result c.args.back c.args.to c.min-end.result c.later_by.result c.later_by-2.result c.min-next.result
    (simp (to_z-of_z, next) at c.min-far.ensures.value) (simp (to_z-of_z, far, c.ranges.back) at c.later_by.ensures)
    (simp (to_z-of_z, c.ranges.to) at c.min-end.ensures.value) (simp (to_z-of_z, end) at c.later_by-2.ensures)
    (simp (to_z-of_z, one, two) at c.min-next.ensures.value) c.requires.some)
