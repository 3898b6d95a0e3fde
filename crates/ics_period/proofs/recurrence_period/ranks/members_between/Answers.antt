use Rattle.std.proofs.Common.{arith}
use Rattle.ics_fields.specs.Sets.{contains_wide}
use Rattle.ics_period.proofs.Counts.{count_mono}
use Rattle.ics_period.proofs.RankLemmas.{count_clamped}
use Rattle.ics_period.proofs.recurrence_period.ranks.members_between.Goals as goal

pub overflow_sub-result : goal.overflow_sub-result
overflow_sub-result c = grind (arith, count_mono)

pub returns-clause-value : goal.returns-clause-value
returns-clause-value c =
    let more = count_mono c.args.low c.args.high (contains_wide c.args.set.now) c.requires in
    grind (arith, more, count_clamped c.args.set.now c.args.low, count_clamped c.args.set.now c.args.high)
