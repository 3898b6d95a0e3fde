use Rattle.ics_zone.proofs.FileStretchLemmas.{fixed_stretch, rule_stretch, table_stretch}
use Rattle.ics_zone.proofs.jiff_zone.JiffZone.stretch.Goals as goal

pub returns-in-Fixed : goal.returns-in-Fixed
returns-in-Fixed c = rw c.in-Fixed.is (fixed_stretch c.in-Fixed.offset c.always.result c.always.ensures.offset c.always.ensures.shown)

pub returns-in-Posix : goal.returns-in-Posix
returns-in-Posix c = rw c.in-Posix.is (rule_stretch c.in-Posix.rule c.of_rule.ensures)

pub returns-in-Table : goal.returns-in-Table
returns-in-Table c = rw c.in-Table.is (table_stretch c.in-Table.table (rw c.get.ensures at c.of_table.ensures))
