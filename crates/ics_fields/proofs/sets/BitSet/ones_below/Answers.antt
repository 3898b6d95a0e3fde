use Rattle.std.proofs.Common.{ap, ◌∙◌, ◌%◌, ◌^◌, count_ones, sym, arith}
use Rattle.std.proofs.Math.Nat.{mod-eq_of_lt}
use Rattle.std.proofs.Math.Pow.{pow_mono}
use Rattle.ics_fields.proofs.sets.BitSet.ones_below.Goals as goal

pub returns-else-n-lt64 : goal.returns-else-n-lt64
returns-else-n-lt64 c =
    let wide = pow_mono {i = 64} {j = c.args.n} c.if-n-lt64.false in
    ap count_ones (sym (mod-eq_of_lt {n = c.self.inside.bits} {m = 2 ^ c.args.n} (omega (arith, wide))))
    ∙ ap (λ s. count_ones (s % 2 ^ c.args.n)) c.self.view_is
