use Rattle.std.proofs.Common.{arith, map}
use Rattle.std.proofs.lemmas.Grind.{common_steps}
use Rattle.std.proofs.lemmas.Iterator.Adapters.{position_from-zero}
use Rattle.std.proofs.lemmas.List.{nil_from_length}
use Rattle.ics_calendar.specs.DeferredChecks.{is_same}
use Rattle.ics_calendar.proofs.FilesGiven.{same-known, or-placed, names_tie}
use Rattle.ics_calendar.proofs.zone_table.ZoneTable.sharing.Goals as goal

pub loop-zone-init : goal.loop-zone-init
loop-zone-init c = record {
  places = λ used. grind (arith, common_steps, position_from-zero (is_same used) (map (λ z. z.name) c.args.zones.items));
  zones = grind (arith, common_steps);
}

pub loop-zone-preserved : goal.loop-zone-preserved
loop-zone-preserved c = record {
  places = λ used. grind (arith, common_steps, or-placed, names_tie, c.loop-zone.invariant.places used, c.in_ok-put_first.ensures.put used);
  zones = grind (arith, common_steps);
}

pub returns : goal.returns
returns c =
    let none = nil_from_length c.loop-zone.zone-iterator.rest.items in
    same-known _ _ (λ used. grind (arith, common_steps, none, c.loop-zone.invariant.places used)) (grind (arith, common_steps, none))
    (λ name. grind (arith, common_steps))
