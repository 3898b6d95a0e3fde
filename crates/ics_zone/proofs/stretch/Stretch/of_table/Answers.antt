use Rattle.std.proofs.Common.{arith, refl, ◌-◌}
use Rattle.std.proofs.lemmas.Int.{ints}
use Rattle.ics_zone.proofs.FileStretchLemmas.{row_count, row_there, stretch_past}
use Rattle.ics_zone.proofs.stretch.Stretch.of_table.Goals as goal

pub returns-then-count-eq0 : goal.returns-then-count-eq0
returns-then-count-eq0 c =
    let z = c.args.table.now in
    let read = c.transitions-rows in
    let count = c.partition_point-count in
    stretch_past z count.result (omega (arith, count.ensures.bound, row_count z read.result.now read.ensures)) c.before_row-stretch.ensures
    (record { to = refl; offset = refl; shown = refl })
    (record {
      on = omega (arith, ints);
      end = λ l. absurd (omega (arith, c.if-count-eq0.true, l));
      row = λ l. absurd (omega (arith, c.if-count-eq0.true, l));
    })

pub returns-then-local-civil_end : goal.returns-then-local-civil_end
returns-then-local-civil_end c =
    let z = c.args.table.now in
    let read = c.transitions-rows in
    let count = c.partition_point-count in
    c.in_gap.ensures z count.result
    (record {
      some = omega (arith, c.if-count-eq0.false);
      within = omega (arith, count.ensures.bound, row_count z read.result.now read.ensures);
      is = row_there z read.result.now (count.result - 1) c.index-rows-count.result read.ensures c.index-rows-count.is
          (omega (arith, count.ensures.bound, c.if-count-eq0.false));
    })
    c.before_row-stretch.ensures

pub returns-else-local-civil_end : goal.returns-else-local-civil_end
returns-else-local-civil_end c =
    let z = c.args.table.now in
    let read = c.transitions-rows in
    let count = c.partition_point-count in
    let past = c.past.ensures in
    let there = row_there z read.result.now (count.result - 1) c.index-rows-count.result read.ensures c.index-rows-count.is
    (omega (arith, count.ensures.bound, c.if-count-eq0.false)) in
    stretch_past z count.result (omega (arith, count.ensures.bound, row_count z read.result.now read.ensures)) c.before_row-stretch.ensures
    (record { to = past.to; offset = past.offset; shown = past.shown })
    (record { on = past.from; end = λ l. rw there past.end; row = λ l. rw there past.passed })
