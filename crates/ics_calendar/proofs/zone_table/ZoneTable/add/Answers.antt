use Rattle.std.proofs.Common.{arith}
use Rattle.std.proofs.lemmas.Grind.{common_steps}
use Rattle.ics_calendar.proofs.FilesGiven.{same-known, ties}
use Rattle.ics_calendar.proofs.zone_table.ZoneTable.add.Goals as goal

pub returns-in_ok-push-in-Some-Some : goal.returns-in_ok-push-in-Some-Some
returns-in_ok-push-in-Some-Some c =
    same-known _ _ (λ used. grind (arith, common_steps, ties, c.in_ok-put_first-in-Some-Some.ensures.put used.name)) (grind (arith, common_steps))
    (λ name. grind (arith, common_steps))

pub returns-in_ok-insert-in-Some-None : goal.returns-in_ok-insert-in-Some-None
returns-in_ok-insert-in-Some-None c =
    same-known _ _ (λ used. grind (arith, common_steps)) (grind (arith, common_steps))
    (λ name. grind (arith, common_steps, ties, c.in_ok-insert-in-Some-None.ensures.updates.0 name))
