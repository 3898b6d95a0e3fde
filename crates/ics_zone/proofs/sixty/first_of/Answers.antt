use Rattle.std.proofs.Common.{arith, ◌+◌, ◌*◌, pos}
use Rattle.std.proofs.lemmas.Int.{ints, clamps}
use Rattle.ics_zone.proofs.SixtyLemmas.{first_seconds}
use Rattle.ics_zone.proofs.sixty.first_of.Goals as goal

pub returns-clause-first : goal.returns-clause-first
returns-clause-first c = λ n low.
    first_seconds n _ (pos (c.args.minute * 60 + n)) c.args.count (λ less. omega (arith, ints, clamps)) (λ less. omega (arith, ints, clamps))
