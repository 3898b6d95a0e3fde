use Rattle.std.proofs.Common.{arith}
use Rattle.jiff_core.proofs.SignedLemmas.{signed_arith}
use Rattle.ics_zone.proofs.rule_stretch.shown.Goals as goal

pub overflow_add-result : goal.overflow_add-result
overflow_add-result c = omega (arith, signed_arith, c.floor_second.ensures, c.args.at.in_range, c.args.offset.in_range)

pub returns : goal.returns
returns c = record {
  value = omega (arith, signed_arith, c.floor_second.ensures, c.args.at.in_range, c.args.offset.in_range);
  bound = (
    omega (arith, signed_arith, c.floor_second.ensures, c.args.at.in_range, c.args.offset.in_range),
    omega (arith, signed_arith, c.floor_second.ensures, c.args.at.in_range, c.args.offset.in_range),
  );
}
