use Rattle.std.proofs.lemmas.Grind.{common_steps}
use Rattle.std.proofs.Common.{arith}
use Rattle.std.proofs.lemmas.Int.{ints}
use Rattle.std.proofs.lemmas.Option.{IfSome_then}
use Rattle.ics_zone.proofs.HourLemmas.{told_by}
use Rattle.ics_zone.proofs.onsets.Onsets.hours_from.Goals as goal

pub returns : goal.returns
returns c = IfSome_then c.of.result c.of.ensures (λ hours. told_by c.args.from _ c.in-Some.is (omega (arith, ints)) (omega (arith, ints)))

pub returns-in_default : goal.returns-in_default
returns-in_default c = grind (arith, common_steps)

pub returns-then-local-lt0 : goal.returns-then-local-lt0
returns-then-local-lt0 c = grind (arith, common_steps)
