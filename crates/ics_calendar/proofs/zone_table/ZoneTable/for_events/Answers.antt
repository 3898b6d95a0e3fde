use Rattle.std.proofs.Common.{◌∙◌}
use Rattle.ics_calendar.proofs.zone_table.ZoneTable.for_events.Goals as goal
use Rattle.ics_calendar.proofs.zone_table.ZoneTable.for_events.Goals.{then-any, else-any}

pub returns : goal.returns
returns c = elim c.if-any.branch [
  | then-any w ↦ rw w.table-is (w.learn_each.ensures ∙ w.note_all.ensures ∙ c.in_ok-table.ensures)
  | else-any w ↦ rw w.table-is c.in_ok-table.ensures
]
