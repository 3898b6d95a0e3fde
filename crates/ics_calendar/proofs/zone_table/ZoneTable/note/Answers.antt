use Rattle.std.proofs.Common.{ap, ◌∙◌, map, refl, slice_set}
use Rattle.std.proofs.lemmas.List.{set-get_or}
use Rattle.ics_zone.specs.ZoneSaid.{zone_said}
use Rattle.ics_calendar.proofs.FilesGiven.{same-known}
use Rattle.ics_calendar.proofs.zone_table.ZoneTable.note.Goals as goal

pub returns-in-Some-get_mut : goal.returns-in-Some-get_mut
returns-in-Some-get_mut c =
    let zones = c.args.self.now.zones.items in
    let there = ap (slice_set zones c.in-Some-index.place) (c.note.ensures ∙ c.in-Some-get_mut.ensures.value)
    ∙ set-get_or zones c.in-Some-index.place c.in-Some-get_mut.zone.now in
    same-known _ _ (λ used. refl) (ap (map zone_said) there) (λ name. refl)
