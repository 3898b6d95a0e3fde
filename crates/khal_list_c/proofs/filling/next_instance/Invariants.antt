use Rattle.std.proofs.Common.{◌≤◌}
use Rattle.ics_rule.specs.Cursors.{IsCursorOf, place_of}
use Rattle.khal_list_c.specs.Clocks.{clock_said}
use Rattle.khal_list_c.specs.Times.{NoneOf, is_instance}
use Rattle.khal_list_c.proofs.filling.next_instance.Given as goal

abbrev pub invariant-loop-count : goal.invariant-loop-count
invariant-loop-count l =
    IsCursorOf l.said.rule l.cursor
    × ((l._count ≤ place_of l.cursor)
    × ((place_of l.fn.cursor ≤ place_of l.cursor)
    × NoneOf (is_instance l.said.rule (clock_said l.clock)) (place_of l.fn.cursor) (place_of l.cursor)))
