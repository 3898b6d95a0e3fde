use Rattle.std.proofs.Common.{sym, ap, ◌∙◌, subst}
use Rattle.std.specs.List.{All, fold}
use Rattle.std.proofs.lemmas.List.Elements.{All-nil}
use Rattle.ics_components.specs.ParsedFiles.{IsSoundParsed}
use Rattle.ics_components.specs.PartFaults.{earlier}
use Rattle.ics_components.specs.Sound.{IsSoundZone}
use Rattle.ics_components.specs.declared.parsed_file.CalendarZone.{CalendarZone}
use Rattle.ics_components.specs.Parted.{IsSoundParted, PartedFileSeen}
use Rattle.ics_calendar.specs.Inner.PartsRead.{AreRead, fault_read, labelled, nothing_labelled}
use Rattle.ics_calendar.specs.Settled.{known_in}
use Rattle.ics_calendar.specs.Inner.SharedFaults.{AreShared, needed_by}
use Rattle.ics_calendar.specs.Inner.SoundParts.{PartsSeen, SoundEventSeen, wanted_by}
use Rattle.ics_calendar.specs.ZoneTables.{known_by}
use Rattle.ics_calendar.proofs.Shared.{events-sound, needed-same, zones-sound}
use Rattle.ics_calendar.proofs.file_parts.FileParts.of.Goals as goal

pub new-requires-2 : goal.new-requires-2
new-requires-2 c =
    let sound = subst IsSoundParted (sym c.parted.view_is) c.requires in
    subst (All (λ (z : CalendarZone). IsSoundZone z.observances)) (sym (c.in_ok-copies.ensures ∙ c.deref-4.ensures.value ∙ c.in_ok-zones.ensures))
    (zones-sound c.parted.inside.zones.items sound.1)

pub invariant_of-result : goal.invariant_of-result
invariant_of-result c =
    let sound = subst IsSoundParted (sym c.parted.view_is) c.requires in
    let inside = c.parted.inside in
    let needed = needed_by c.in_ok-shared.shared in (
      record {
        known = c.in_ok-table.ensures ∙ ap known_in (c.in_ok-copies.ensures ∙ c.deref-4.ensures.value);
        sound_zones = subst (All (λ (z : CalendarZone). IsSoundZone z.observances)) (sym c.in_ok-zones.ensures) (zones-sound inside.zones.items sound.1);
        sound_events = subst (All (λ (sound : SoundEventSeen). IsSoundParsed sound.read)) (sym c.in_ok-by_uid.ensures.events)
            (events-sound needed nothing_labelled inside.events.items (All-nil (λ (sound : SoundEventSeen). IsSoundParsed sound.read)) sound.0);
      },
      c.in_ok-wanted.ensures ∙ (λ i. wanted_by (known_by c.in_ok-table.table).index (c.deref-6.ensures.value i) (c.deref-5.ensures.value i)),
    )

pub returns : goal.returns
returns c =
    let inside = c.parted.inside in
    let shared = c.in_ok-shared.shared in
    let parted : PartedFileSeen = record {
      events = inside.events.items;
      zones = inside.zones.items;
      calendars = inside.calendars.items;
      outside = inside.outside;
    } in
    let parts : PartsSeen = record {
      table = c.in_ok-table.table;
      zones = c.in_ok-zones.zones.items;
      events = c.in_ok-by_uid.field-0.events.items;
      faults = c.in_ok-by_uid.field-0.faults.items;
      rest = c.fault_of_rest-rest.result;
    } in
    let are = subst (λ calendars. AreShared calendars inside.zones.items shared) c.deref.ensures.value
    (subst (λ zones. AreShared c.deref.result.now zones shared) c.deref-2.ensures.value c.in_ok-shared.ensures) in
    subst (λ parted. AreRead parted parts) c.parted.view_is (record {
      zones = c.in_ok-zones.ensures;
      events = c.in_ok-by_uid.ensures.events ∙ (λ i. (labelled (λ event. needed-same parted shared are event i) inside.events.items).events);
      faults = c.in_ok-by_uid.ensures.faults
          ∙ (λ i. (labelled (λ event. needed-same parted shared are event i) inside.events.items).numbered.faults);
      rest = c.fault_of_rest-rest.ensures ∙ (λ i. fold (λ first zone. earlier first (fault_read zone.read)) inside.outside (c.deref-3.ensures.value i));
      known = c.in_ok-table.ensures ∙ ap known_in (c.in_ok-copies.ensures ∙ c.deref-4.ensures.value ∙ c.in_ok-zones.ensures);
    })
