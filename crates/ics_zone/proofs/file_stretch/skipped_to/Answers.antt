use Rattle.std.proofs.Common.{arith}
use Rattle.std.proofs.lemmas.Int.{int_max_is, ints}
use Rattle.ics_zone.proofs.file_stretch.skipped_to.Goals as goal

pub overflow_sub-result : goal.overflow_sub-result
overflow_sub-result c =
    let row = c.args.row in
    omega (arith, ints, c.civil_end.ensures, c.from.ensures, row.second_in, row.before.in_range, row.after.offset.in_range, int_max_is)

pub returns : goal.returns
returns c =
    let row = c.args.row in
    record {
      is = omega (arith, ints, c.civil_end.ensures, c.from.ensures, row.second_in, row.before.in_range, row.after.offset.in_range, int_max_is);
      near = (
        omega (arith, ints, c.civil_end.ensures, c.from.ensures, row.second_in, row.before.in_range, row.after.offset.in_range, int_max_is),
        omega (arith, ints, c.civil_end.ensures, c.from.ensures, row.second_in, row.before.in_range, row.after.offset.in_range, int_max_is),
      );
    }
