use Rattle.std.proofs.Common.{rules, arith, take_all}
use Rattle.std.proofs.lemmas.List.Elements.{All-more}
use Rattle.khal_reading.proofs.ShownLemmas.{IsPrinted, shown_same}
use Rattle.khal_reading.proofs.shown.is_plain.Goals as goal

pub loop-byte-preserved : goal.loop-byte-preserved
loop-byte-preserved c =
    All-more IsPrinted c.args.bytes.now c.loop-byte.byte-index 0 c.loop-byte-test.true c.loop-byte.invariant (search rules)

pub returns : goal.returns
returns c = λ yes.
    shown_same c.args.bytes.now (rw (take_all c.loop-byte.byte-index c.args.bytes.now (omega (arith, c.loop-byte-test.false))) at c.loop-byte.invariant)
