use Rattle.std.proofs.Common.{sym, ap, ◌∙◌, subst, ◌&&◌, length}
use Rattle.std.proofs.lemmas.List.Elements.{All-filter}
use Rattle.ics_components.specs.ParsedFiles.{IsSoundParsed}
use Rattle.ics_components.specs.Sound.{IsSoundZone}
use Rattle.ics_calendar.specs.DeferredChecks.{with_files}
use Rattle.ics_calendar.specs.Parts.{in_order}
use Rattle.ics_calendar.specs.Inner.SoundParts.{PartsSeen, faults_at, given_by_parts, is_sound, later_of, listed, of_parts, said_with, wanted_by}
use Rattle.ics_calendar.specs.Inner.SoundParts.{zones_for}
use Rattle.ics_calendar.specs.ZoneTables.{known_by, given_by}
use Rattle.std.specs.List.{flat_map}
use Rattle.std.proofs.Common.{◌∷◌, ◌++◌}
use Rattle.ics_calendar.proofs.PartsGiven.{gathered-sound, settled}
use Rattle.ics_calendar.proofs.file_parts.FileParts.settle.Goals as goal

pub said-requires : goal.said-requires
said-requires c =
    subst IsSoundParsed (sym c.in_ok-parsed.ensures)
    (gathered-sound c.accepted-events.result.items c.in_ok-zones.zones.items
    (rw c.accepted-events.ensures (All-filter _ (λ sound. IsSoundParsed sound.read) c.self.inside.events.items c.self.invariant.0.sound_events))
    (rw c.in_ok-zones.ensures (All-filter _ (λ z. IsSoundZone z.observances) c.self.inside.zones.items c.self.invariant.0.sound_zones)))

pub returns : goal.returns
returns c =
    let files = given_by c.args.files.now in
    let inside = c.self.inside in
    let known = c.in_ok-table.ensures ∙ ap (with_files (known_by inside.table) files) c.self.invariant.1 in
    let gathered = c.in_ok-parsed.ensures in
    settled {parts = record {
      table = inside.table;
      zones = inside.zones.items;
      events = inside.events.items;
      faults = inside.faults.items;
      rest = inside.rest;
    }} {known = with_files (known_by inside.table) files (wanted_by (known_by inside.table).index inside.faults.items inside.events.items)} (record {
      later = c.in_ok-later.later.items;
      count = c.in_ok-later.ensures.count ∙ ap (λ faults. length faults) c.deref-2.ensures.value;
      each = λ part less. c.in_ok-later.ensures.each part (rw c.deref-2.ensures.value less) ∙ (λ i. later_of (known i) (c.deref.ensures.value i) part);
      accepted = c.accepted-events.result.items;
      accepts = c.accepted-events.ensures
          ∙ (λ i. of_parts (λ part. is_sound (c.deref-6.ensures.value i) part && is_sound (c.deref-7.ensures.value i) part) inside.events.items);
      zones = c.in_ok-zones.zones.items;
      named = c.in_ok-zones.ensures ∙ (λ i. zones_for (c.deref-8.ensures.value i) inside.zones.items);
      said = c.in_ok-said.ensures ∙ ap (λ parsed. said_with parsed files) gathered;
      faults = c.in_ok-named.ensures
          ∙ (λ i. in_order (c.args.fault ∷ (listed inside.rest ++ (flat_map listed (c.deref-3.ensures.value i)
          ++ flat_map (faults_at (c.deref-3.ensures.value i) (c.deref-4.ensures.value i)) (c.deref-5.ensures.value i)))));
    })
    ∙ ap (λ (parts : PartsSeen).
    given_by_parts (with_files (known_by parts.table) files (wanted_by (known_by parts.table).index parts.faults parts.events)) parts
    files c.args.fault) c.self.view_is
