use Rattle.std.proofs.Common.{◌<◌, ◌/◌, ◌%◌, arith}
use Rattle.ics_fields.specs.Sets.{contains}
use Rattle.ics_fields.proofs.SetLemmas.{member_below}
use Rattle.ics_period.specs.Ranks.{count}
use Rattle.ics_period.specs.RecurrencePeriods.{IsNth}
use Rattle.ics_period.proofs.Counts.{count_mono}
use Rattle.ics_period.proofs.RankLemmas.{block_index}
use Rattle.ics_period.proofs.ProductCounts.{nth-product}
use Rattle.ics_period.proofs.recurrence_period.ranks.nth_minute.Goals as goal
use Rattle.ics_period.proofs.recurrence_period.ranks.nth_minute.Goals.{After-members_below-size}

index : (c : After-members_below-size) → (c.args.k / c.members_below-size.result < count 24 (contains c.args.hours))
    × (c.args.k % c.members_below-size.result < c.members_below-size.result)
index c = block_index c.args.k (count 24 (contains c.args.hours)) c.members_below-size.result
    (rw c.members_below-size.ensures.value c.requires.index)

pub nth_member-requires : goal.nth_member-requires
nth_member-requires c = grind (arith, count_mono, index)

pub nth_member-requires-2 : goal.nth_member-requires-2
nth_member-requires-2 c = grind (arith, count_mono, index)

pub returns-clause-nth : goal.returns-clause-nth
returns-clause-nth c = nth-product 60 c.args.k c.members_below-size.ensures.value
    (member_below c.args.minutes 60 c.nth_member-2.result c.requires.set (IsNth.passes c.nth_member-2.ensures.nth)) c.nth_member.ensures.nth
    c.nth_member-2.ensures.nth
