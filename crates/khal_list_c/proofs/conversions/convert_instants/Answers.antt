use Rattle.std.proofs.Common.{arith, get_or, pos}
use Rattle.std.proofs.lemmas.Grind.{common_steps}
use Rattle.std.proofs.lemmas.Option.{get_or_from_slice_get, slice_get-get_or}
use Rattle.khal_list_c.proofs.conversions.convert_instants.Goals as goal

pub loop-i-preserved : goal.loop-i-preserved
loop-i-preserved c =
    let each = c.loop-i.invariant.each in
    let kind = c.loop-i.invariant.kind in
    record {
      each = grind (arith, common_steps, each);
      kind = λ n l a h.
          let is = get_or_from_slice_get c.args.instants.now n a (pos 0) h in
          grind (arith, kind n, l, h, is);
    }

pub returns-then-instants-i-lt-FIRST : goal.returns-then-instants-i-lt-FIRST
returns-then-instants-i-lt-FIRST c = record {
  room = grind (arith, common_steps);
  each = c.loop-i.invariant.each;
  kind = c.loop-i.invariant.kind;
  all = λ l. (get_or c.args.instants.now c.loop-i.i (pos 0), slice_get-get_or c.args.instants.now c.loop-i.i (pos 0) (omega (arith, l)), λ is. grind (arith, is));
}
