use Rattle.std.proofs.Common.{arith}
use Rattle.std.proofs.lemmas.Grind.{common_steps}
use Rattle.std.proofs.lemmas.List.Folds.{list_any_none}
use Rattle.ics_zone.specs.Observances.{has_finer_rule}
use Rattle.ics_calendar.proofs.zone.zone_of.Goals as goal

pub read-requires : goal.read-requires
read-requires c = rw c.ended.view_is (λ i d l. (c.requires.sound i d l).bounds)

pub unreachable-requires : goal.unreachable-requires
unreachable-requires c =
    let daily = list_any_none has_finer_rule c.args.ended (λ i d l. (c.requires.sound i d l).daily) in
    grind (arith, common_steps, daily, c.requires.filled, c.ended.view_is)
