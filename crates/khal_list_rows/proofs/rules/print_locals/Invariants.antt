use Rattle.ics_rule.specs.Cursors.{IsCursorOf}
use Rattle.khal_list_rows.proofs.rules.print_locals.Given as goal

abbrev pub invariant-loop : goal.invariant-loop
invariant-loop l = IsCursorOf l.rule l.cursor
