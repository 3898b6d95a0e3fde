use Rattle.std.proofs.Common.{arith}
use Rattle.ics_fields.specs.Sets.{contains}
use Rattle.ics_period.proofs.ScanLemmas.{in_word}
use Rattle.ics_period.proofs.ProductCounts.{count_taken, count_left}
use Rattle.ics_period.proofs.recurrence_period.sizes.minutes_below.Goals as goal

pub returns-then-contains-clause-value : goal.returns-then-contains-clause-value
returns-then-contains-clause-value c = grind (arith, in_word, count_taken c.args.minute 60 (contains c.args.hours) (contains c.args.minutes))

pub returns-else-contains-clause-value : goal.returns-else-contains-clause-value
returns-else-contains-clause-value c = grind (arith, in_word, count_left c.args.minute 60 (contains c.args.hours) (contains c.args.minutes))
