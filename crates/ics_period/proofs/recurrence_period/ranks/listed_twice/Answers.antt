use Rattle.std.proofs.Common.{arith}
use Rattle.ics_period.proofs.Counts.{count_most, count_none_at, count_one}
use Rattle.ics_period.proofs.RankLemmas.{is_twice, twice_begun, twice_next}
use Rattle.ics_period.proofs.recurrence_period.ranks.listed_twice.Goals as goal
use Rattle.ics_period.proofs.recurrence_period.ranks.listed_twice.Goals.{then-contains, else-contains}

pub loop-place-init : goal.loop-place-init
loop-place-init c =
    let first = rw c.saturating_sub.ensures at c.next_front-place.ensures in (
      twice_begun c.args.positions.now c.args.size c.args.k c.next_front-place.result first,
      (first.high, λ less. let at = first.found less in (omega (arith, at.0), at.1)),
    )

pub overflow_add-total : goal.overflow_add-total
overflow_add-total c = grind (arith, count_most)

pub loop-place-preserved : goal.loop-place-preserved
loop-place-preserved c =
    let first = c.next_front-place-in-loop-place.ensures in
    let here = c.loop-place.invariant.1.1 c.loop-place-test.true in
    let one = count_one (is_twice c.args.positions.now c.args.size c.loop-place.place) in
    let none = count_none_at (is_twice c.args.positions.now c.args.size c.loop-place.place) in
    let next = twice_next c.args.positions.now c.args.size c.args.k c.loop-place.place c.next_front-place-in-loop-place.result c.loop-place-test.true first in (
      grind (arith, one, none, next, here),
      (first.high, λ less. let at = first.found less in (omega (arith, at.0, here.0), at.1)),
    )
