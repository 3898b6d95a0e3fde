use Rattle.std.specs.List.{All}
use Rattle.ics_zone.specs.Stretches.{IsStretch}
use Rattle.ics_zone.specs.ZoneSaid.{jiff_said, said_moment, said_offset}
use Rattle.ics_zone.proofs.learned_zone.stretches_between.Given as goal

abbrev pub invariant-loop : goal.invariant-loop
invariant-loop l = All (IsStretch (said_offset (jiff_said l.zone)) (said_moment (jiff_said l.zone))) l.known.items
