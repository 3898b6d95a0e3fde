use Rattle.std.proofs.Common.{eqb, arith, take, drop, w8}
use Rattle.std.proofs.lemmas.Simd.{bitmask_splat, length-chunk}
use Rattle.ics_text.proofs.line_end.marks.Goals as goal

pub returns : goal.returns
returns c =
    bitmask_splat w8 eqb (take 32 (drop c.args.at c.args.bytes.now)) 32 10 (length-chunk c.args.at 32 c.args.bytes.now c.requires) (omega arith)
