use Rattle.std.proofs.lemmas.Grind.{common_steps}
use Rattle.std.proofs.Common.{Some, arith}
use Rattle.ics_starts.proofs.SeriesLemmas.{first-by}
use Rattle.ics_starts.proofs.series.earlier_of.Goals as goal

pub returns-in_default : goal.returns-in_default
returns-in_default c = first-by {first = c.args.ruled} (grind (arith, common_steps))

pub returns-in-Some-ruled : goal.returns-in-Some-ruled
returns-in-Some-ruled c = first-by {first = Some c.in-Some-ruled.a} (grind (arith, common_steps))

pub returns-in_default-ruled : goal.returns-in_default-ruled
returns-in_default-ruled c = first-by {first = Some c.in-Some.b} (grind (arith, common_steps))
