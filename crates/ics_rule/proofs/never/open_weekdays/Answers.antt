use Rattle.std.proofs.Common.{arith}
use Rattle.ics_period.specs.Candidates.{lets_date}
use Rattle.ics_period.proofs.Counts.{count-suc}
use Rattle.ics_period.proofs.ProductCounts.{count_zero}
use Rattle.ics_rule.proofs.never.open_weekdays.Goals as goal

pub loop-day-init : goal.loop-day-init
loop-day-init c = let none = count_zero (lets_date c.args.parts.now) in grind arith

pub loop-day-preserved : goal.loop-day-preserved
loop-day-preserved c = let one = count-suc c.loop-day.day (lets_date c.args.parts.now) in grind arith
