use Rattle.std.proofs.Common.{arith}
use Rattle.std.proofs.lemmas.Grind.{common_steps}
use Rattle.std.proofs.lemmas.Option.{get_or_from_slice_get}
use Rattle.khal_list_c.proofs.conversions.convert_locals.Goals as goal

pub loop-i-preserved : goal.loop-i-preserved
loop-i-preserved c =
    let each = c.loop-i.invariant.each in
    let kind = c.loop-i.invariant.kind in
    record {
      each = grind (arith, common_steps, each);
      kind = λ n l a h.
          let is = get_or_from_slice_get c.args.locals.now n a 0 h in
          grind (arith, kind n, l, h, is);
    }
