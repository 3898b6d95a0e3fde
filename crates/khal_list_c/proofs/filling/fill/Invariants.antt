use Rattle.std.proofs.Common.{◌≡◌}
use Rattle.ics_rule.specs.Cursors.{IsCursorOf, place_of}
use Rattle.khal_list_c.specs.Clocks.{clock_said}
use Rattle.khal_list_c.specs.Times.{place, AreNext, is_instance}
use Rattle.khal_list_c.proofs.filling.fill.Given as goal

abbrev pub invariant-loop-i : goal.invariant-loop-i
invariant-loop-i l =
    IsCursorOf l.said.rule l.cursor
    × ((place_of l.cursor ≡ place l.from l.times l.i)
    × AreNext (is_instance l.said.rule (clock_said l.clock)) l.from l.before l.times l.i)
