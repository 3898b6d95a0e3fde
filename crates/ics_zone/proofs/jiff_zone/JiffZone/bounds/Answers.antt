use Rattle.std.proofs.Common.{arith}
use Rattle.std.proofs.lemmas.Int.{ints}
use Rattle.ics_zone.proofs.BoundsLemmas.{fixed_bounds, rule_bounds, table_bounds}
use Rattle.ics_zone.proofs.jiff_zone.JiffZone.bounds.Goals as goal

pub returns-in-Fixed : goal.returns-in-Fixed
returns-in-Fixed c =
    let r = c.of_offset in
    rw c.in-Fixed.is (fixed_bounds c.in-Fixed.offset r.result.least r.result.most r.ensures.least r.ensures.most)

pub returns-in-Posix : goal.returns-in-Posix
returns-in-Posix c =
    let own = c.of_offset-in-Posix.ensures in
    let short = c.in-Posix.rule.std_offset.in_range in
    let r = c.with_rule in
    rw c.in-Posix.is (rule_bounds r.result.least r.result.most c.in-Posix.rule r.ensures.rule
    (r.ensures.least_short (omega (arith, ints, own.least, short), omega (arith, ints, own.least, short)))
    (r.ensures.most_short (omega (arith, ints, own.most, short), omega (arith, ints, own.most, short))))

pub returns-in-Table : goal.returns-in-Table
returns-in-Table c = rw c.in-Table.is (table_bounds c.in-Table.table c.bounds.ensures)
