use Rattle.std.proofs.Common.{arith}
use Rattle.std.proofs.lemmas.Int.{ints}
use Rattle.ics_starts.specs.Clocks.{local_at}
use Rattle.ics_starts.proofs.ExclusionLemmas.{apart-back}
use Rattle.ics_starts.proofs.exclusion.Exclusions.skips_by.Goals as goal

pub overflow_sub-next : goal.overflow_sub-next
overflow_sub-next c = omega (arith, ints, apart-back c.requires.least c.requires.most, c.requires.least, c.requires.most, c.requires.next)

pub run_end-requires : goal.run_end-requires
run_end-requires c =
    let apart = apart-back c.requires.least c.requires.most in (
      omega (arith, ints, apart, c.requires.least, c.requires.most, c.requires.next),
      omega (arith, ints, apart, c.requires.least, c.requires.most, c.requires.next),
    )

pub overflow_sub-result : goal.overflow_sub-result
overflow_sub-result c =
    omega (arith, ints, apart-back c.requires.least c.requires.most, c.requires.least, c.requires.most, c.run_end.ensures.near)

pub returns : goal.returns
returns c = λ clock b local on before.
    let least = c.requires.least in
    let most = c.requires.most in
    let apart = apart-back c.requires.least c.requires.most in
    let means = b.moments local in
    let off = b.offsets (clock.moment local) in
    c.run_end.ensures.removed (local_at clock (clock.moment local)) (omega (arith, ints, apart, least, most, c.requires.next, on, means.0, off.0))
    (omega (arith, ints, apart, least, most, c.run_end.ensures.near, before, means.1, off.1))
