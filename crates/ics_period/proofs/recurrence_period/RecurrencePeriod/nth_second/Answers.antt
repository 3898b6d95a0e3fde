use Rattle.std.proofs.Common.{arith}
use Rattle.ics_fields.proofs.SetLemmas.{member_below}
use Rattle.ics_period.specs.RecurrencePeriods.{IsNth}
use Rattle.ics_period.proofs.Counts.{count_mono}
use Rattle.ics_period.proofs.RankLemmas.{block_index}
use Rattle.ics_period.proofs.ProductCounts.{nth-product}
use Rattle.ics_period.proofs.recurrence_period.RecurrencePeriod.nth_second.Goals as goal

pub nth_member-requires : goal.nth_member-requires
nth_member-requires c = grind (arith, block_index, count_mono)

pub returns-clause-nth : goal.returns-clause-nth
returns-clause-nth c = nth-product 60 c.args.k c.members_below-size.ensures.value
    (member_below c.args.self.now.seconds 60 c.nth_member.result c.requires.seconds (IsNth.passes c.nth_member.ensures.nth)) c.nth_minute.ensures.nth
    c.nth_member.ensures.nth
