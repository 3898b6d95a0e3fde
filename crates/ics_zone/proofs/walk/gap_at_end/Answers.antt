use Rattle.std.proofs.Common.{refl, arith}
use Rattle.std.proofs.lemmas.Int.{ints}
use Rattle.ics_zone.proofs.WalkLemmas.{gap_read}
use Rattle.ics_zone.proofs.walk.gap_at_end.Goals as goal

pub returns-then-walk-seconds : goal.returns-then-walk-seconds
returns-then-walk-seconds c = λ offset short walked. gap_read short walked c.args.walk.now.gap refl (omega (arith, ints))
