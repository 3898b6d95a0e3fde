use Rattle.std.proofs.Common.{◌≤ℤ◌, arith}
use Rattle.std.proofs.lemmas.Int.{int_max_is, int_min_is, ints}
use Rattle.jiff_core.specs.Calendar.{IsBetween}
use Rattle.jiff_tz.specs.Tzif.{tzif_view}
use Rattle.ics_zone.proofs.BoundsLemmas.{all_rows, file_bounds, row_read, rows_more, rule_read, wider}
use Rattle.ics_zone.proofs.bounds.Bounds.of_table.Goals as goal

pub loop-row-preserved : goal.loop-row-preserved
loop-row-preserved c =
    let l = c.loop-row in
    let read = c.transitions-row-items in
    let row = c.row-item.result in
    let one = c.with.ensures in
    let two = c.with-bounds.ensures in
    let down : c.with-bounds.result.least ≤ℤ l.bounds.least = omega (arith, ints, one.least, two.least, int_min_is) in
    let up : l.bounds.most ≤ℤ c.with-bounds.result.most = omega (arith, ints, one.most, two.most, int_max_is) in
    record {
      first = wider down up l.invariant.first;
      rows = rows_more (tzif_view c.args.table.now).transitions l.row-index l.invariant.rows down up
          (rw (row_read read.result.now l.row-index row read.ensures c.row-item.is c.loop-row-test.true) (
            (omega (arith, ints, one.least, two.least, int_min_is), omega (arith, ints, one.most, two.most, int_max_is)),
            (omega (arith, ints, two.least, int_min_is), omega (arith, ints, two.most, int_max_is)),
          ));
      least = (
        omega (arith, ints, one.least, two.least, int_min_is, l.invariant.least, row.before.in_range, row.after.offset.in_range),
        omega (arith, ints, down, l.invariant.least),
      );
      most = (
        omega (arith, ints, up, l.invariant.most),
        omega (arith, ints, one.most, two.most, int_max_is, l.invariant.most, row.before.in_range, row.after.offset.in_range),
      );
    }

pub returns-in-None : goal.returns-in-None
returns-in-None c =
    let l = c.loop-row in
    let read = c.transitions-row-items in
    let file = tzif_view c.args.table.now in
    file_bounds l.bounds.least l.bounds.most file (record {
      first = l.invariant.first;
      rows = all_rows (IsBetween l.bounds.least l.bounds.most) read.result.now file read.ensures c.loop-row-test.false l.invariant.first l.invariant.rows;
      rule = rule_read (IsBetween l.bounds.least l.bounds.most) c.posix_tz.result c.posix_tz.ensures (rw c.in-None.is tt);
    }) l.invariant.least l.invariant.most

pub returns-in-Some : goal.returns-in-Some
returns-in-Some c =
    let l = c.loop-row in
    let read = c.transitions-row-items in
    let file = tzif_view c.args.table.now in
    let r = c.with_rule.result in
    let e = c.with_rule.ensures in
    let rows = all_rows (IsBetween l.bounds.least l.bounds.most) read.result.now file read.ensures c.loop-row-test.false l.invariant.first l.invariant.rows in
    file_bounds r.least r.most file (record {
      first = wider e.least e.most l.invariant.first;
      rows = λ k. (wider e.least e.most (rows k).0, wider e.least e.most (rows k).1);
      rule = rule_read (IsBetween r.least r.most) c.posix_tz.result c.posix_tz.ensures (rw c.in-Some.is e.rule);
    }) (e.least_short l.invariant.least) (e.most_short l.invariant.most)
