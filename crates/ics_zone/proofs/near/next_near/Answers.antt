use Rattle.std.proofs.Common.{ℕ, ◌+◌, ◌*◌, ◌/◌, ◌<◌, refl, arith}
use Rattle.ics_rule.specs.Next.{IsNextKept}
use Rattle.ics_zone.proofs.NearLemmas.{next_of_day, next_through, none_of_day, none_through}
use Rattle.ics_zone.proofs.near.next_near.Goals as goal
use Rattle.ics_zone.proofs.near.next_near.Goals.{After-from}

-- the first time of the day from the place on, with any later bound
next : (c : After-from) (bound : ℕ) → c.loop-days.at / 86_400 * 86_400 + c.in-Some-next_second.second < bound
    → IsNextKept c.args.rule.now c.loop-days.at bound (c.loop-days.at / 86_400 * 86_400 + c.in-Some-next_second.second)
next c bound early =
    next_of_day c.args.rule.now (c.loop-days.at / 86_400) c.in-Some.times c.in-Some.ensures c.loop-days.at c.in-Some-next_second.second refl
    c.in-Some-next_second.ensures.small c.in-Some-next_second.ensures.next bound early

pub returns-then-n-bound : goal.returns-then-n-bound
returns-then-n-bound c =
    rw c.from.ensures
    (next_through c.args.rule.now c.args.from c.loop-days.at c.args.bound _ c.loop-days.invariant.low c.loop-days.invariant.none
    (next (goal.at.returns-then-n-bound c).After-from c.args.bound (omega (arith, c.from.ensures, c.if-n-bound.true))))

pub returns-else-n-bound : goal.returns-else-n-bound
returns-else-n-bound c =
    let least = (next (goal.at.returns-else-n-bound c).After-from (c.loop-days.at / 86_400 * 86_400 + c.in-Some-next_second.second + 1) (omega arith)).least in
    none_through c.args.rule.now c.args.from c.loop-days.at c.args.bound c.loop-days.invariant.none
    (λ n low high. least n low (omega (arith, high, c.if-n-bound.false, c.from.ensures)))

pub loop-days-preserved : goal.loop-days-preserved
loop-days-preserved c = record {
  low = omega (arith, c.loop-days.invariant.low);
  high = omega (arith, c.if-at-bound.true, c.requires.bound);
  none = none_through c.args.rule.now c.args.from c.loop-days.at ((c.loop-days.at / 86_400 + 1) * 86_400) c.loop-days.invariant.none
      (none_of_day c.args.rule.now (c.loop-days.at / 86_400) c.in-Some.times c.in-Some.ensures c.loop-days.at refl c.in_default-next_second.ensures.next);
}
