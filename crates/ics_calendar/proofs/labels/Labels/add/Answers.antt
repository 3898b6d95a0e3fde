use Rattle.std.proofs.Common.{sym, ap, ◌∙◌, ◌++◌, subst, Result, Ok, Option}
use Rattle.std.proofs.lemmas.List.{append-nil}
use Rattle.ics_components.specs.declared.fault.Fault.{Fault}
use Rattle.ics_components.specs.ParsedFileSeen.{ParsedFileSeen}
use Rattle.ics_components.specs.PartFaults.{earlier}
use Rattle.ics_calendar.specs.Inner.Labels.{AreLabels, AreNumbered}
use Rattle.ics_components.specs.Parted.{PartedComponentSeen}
use Rattle.ics_calendar.specs.Inner.PartsRead.{Numbered, numbered_with, searched, sound_in, with_event}
use Rattle.ics_calendar.specs.Inner.SharedFaults.{needed_by, shared_beside}
use Rattle.ics_calendar.proofs.labels.Labels.add.Goals as goal

pub returns-in-Ok : goal.returns-in-Ok
returns-in-Ok c = λ had are.
    let shared = c.args.shared.now in
    let inside = c.event.inside in
    let uids = c.searched-uids.result.items in
    let event : PartedComponentSeen = record {
      calendar = inside.calendar;
      uids = uids;
      is_certain = inside.is_certain;
      names = inside.names.items;
      zones = inside.zones.items;
      read = inside.read;
    } in
    let beside = c.in_ok-beside.ensures ∙ ap (shared_beside shared inside.calendar) c.deref.ensures.value in
    let fault = c.earlier-fault.ensures ∙ (λ j. earlier (c.fault_read.ensures j) (beside j)) in
    let numbered : Option Fault → Numbered = λ fault. numbered_with fault had.numbered uids in
    let part = c.in_ok-part.ensures.part had.numbered are.numbered ∙ ap (λ fault. (numbered fault).part) fault in
    subst (λ event. AreLabels (with_event (needed_by shared) had event)
    (record { by_uid = c.note_event.new.by_uid; faults = c.note_event.new.faults; events = c.push.new.self }))
    (ap (λ uids. record event { uids = uids }) c.searched-uids.ensures ∙ ap (searched c.args.is_alone) c.event.view_is) (record {
      numbered = subst (λ fault. AreNumbered (numbered fault) c.note_event.new.by_uid c.note_event.new.faults.items) fault
          (c.in_ok-part.ensures.kept had.numbered are.numbered);
      events = c.in_ok-push-in-Ok.ensures.items ∙ (λ j. are.events j ++ sound_in (part j) event (Ok c.in-Ok.read))
          ∙ ap (λ (read : Result ParsedFileSeen Fault). had.events ++ sound_in (numbered (needed_by shared event)).part event read) (sym c.in-Ok.is);
    })

pub returns : goal.returns
returns c = λ had are.
    let shared = c.args.shared.now in
    let inside = c.event.inside in
    let uids = c.searched-uids.result.items in
    let event : PartedComponentSeen = record {
      calendar = inside.calendar;
      uids = uids;
      is_certain = inside.is_certain;
      names = inside.names.items;
      zones = inside.zones.items;
      read = inside.read;
    } in
    let beside = c.in_ok-beside.ensures ∙ ap (shared_beside shared inside.calendar) c.deref.ensures.value in
    let fault = c.earlier-fault.ensures ∙ (λ j. earlier (c.fault_read.ensures j) (beside j)) in
    let numbered : Option Fault → Numbered = λ fault. numbered_with fault had.numbered uids in
    subst (λ event. AreLabels (with_event (needed_by shared) had event)
    (record { by_uid = c.note_event.new.by_uid; faults = c.note_event.new.faults; events = c.args.self.now.events }))
    (ap (λ uids. record event { uids = uids }) c.searched-uids.ensures ∙ ap (searched c.args.is_alone) c.event.view_is) (record {
      numbered = subst (λ fault. AreNumbered (numbered fault) c.note_event.new.by_uid c.note_event.new.faults.items) fault
          (c.in_ok-part.ensures.kept had.numbered are.numbered);
      events = are.events ∙ sym (append-nil had.events)
          ∙ ap (λ (read : Result ParsedFileSeen Fault). had.events ++ sound_in (numbered (needed_by shared event)).part event read) (sym c.in-Err.is);
    })
