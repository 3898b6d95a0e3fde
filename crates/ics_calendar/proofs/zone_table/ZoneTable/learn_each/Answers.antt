use Rattle.std.proofs.Common.{ap, ◌∙◌, map, refl, length, slice_set}
use Rattle.std.proofs.lemmas.List.{set-get_or}
use Rattle.ics_zone.specs.ZoneSaid.{zone_said}
use Rattle.ics_calendar.proofs.FilesGiven.{same-known}
use Rattle.ics_calendar.proofs.zone_table.ZoneTable.learn_each.Goals as goal

pub loop-k-preserved : goal.loop-k-preserved
loop-k-preserved c =
    let zones = c.loop-k.self.zones.items in
    let there = ap (slice_set zones c.loop-k.k) (c.learn.ensures ∙ c.index_mut.ensures.value) ∙ set-get_or zones c.loop-k.k c.index_mut.result.now in
    record {
      same = same-known _ _ (λ used. refl) (ap (map zone_said) there) (λ name. refl) ∙ c.loop-k.invariant.same;
      long = ap length there ∙ c.loop-k.invariant.long;
    }
