use Rattle.std.proofs.Common.{◌<◌, ◌/◌, ◌%◌, arith}
use Rattle.ics_fields.specs.Sets.{contains_wide}
use Rattle.ics_period.specs.Ranks.{count}
use Rattle.ics_period.specs.RecurrencePeriods.{IsNth}
use Rattle.ics_period.proofs.ScanLemmas.{second_below}
use Rattle.ics_period.proofs.RankLemmas.{block_index}
use Rattle.ics_period.proofs.ProductCounts.{nth-product, nth_of_days, clock_size, product_size}
use Rattle.ics_period.proofs.recurrence_period.RecurrencePeriod.nth.Goals as goal
use Rattle.ics_period.proofs.recurrence_period.RecurrencePeriod.nth.Goals.{After-seconds_below-size}

index : (c : After-seconds_below-size) → (c.args.k / c.seconds_below-size.result < count 384 (contains_wide c.args.self.now.days))
    × (c.args.k % c.seconds_below-size.result < c.seconds_below-size.result)
index c = block_index c.args.k (count 384 (contains_wide c.args.self.now.days)) c.seconds_below-size.result
    (rw c.seconds_below-size.ensures.value (rw (product_size c.args.self.now c.requires.own.1.first) at c.requires.index))

pub nonzero_div-k : goal.nonzero_div-k
nonzero_div-k c = let i = index (goal.at.nonzero_div-k c).After-seconds_below-size in omega (arith, i.1)

pub nth_member-requires : goal.nth_member-requires
nth_member-requires c = (index (goal.at.nth_member-requires c).After-seconds_below-size).0

pub nonzero_rem-k : goal.nonzero_rem-k
nonzero_rem-k c = grind (arith, index)

pub nth_second-requires-clause-index : goal.nth_second-requires-clause-index
nth_second-requires-clause-index c = grind (arith, clock_size, index)

pub returns-clause-nth : goal.returns-clause-nth
returns-clause-nth c = nth-product 86_400 c.args.k c.seconds_below-size.ensures.value
    (second_below c.args.self.now.hours c.args.self.now.minutes c.args.self.now.seconds c.nth_second.result c.requires.own.1.hours
    (IsNth.passes c.nth_second.ensures.nth)) (nth_of_days c.args.self.now _ c.nth_member.result c.nth_member.ensures.nth) c.nth_second.ensures.nth
