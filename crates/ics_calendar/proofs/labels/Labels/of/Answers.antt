use Rattle.std.proofs.Common.{[], ◌∷◌, map, sym, ap, ◌∙◌, subst}
use Rattle.std.proofs.lemmas.Grind.{fold-append}
use Rattle.std.proofs.lemmas.List.{map-append}
use Rattle.ics_calendar.specs.Inner.Labels.{AreLabels}
use Rattle.ics_calendar.specs.Inner.PartsRead.{labelled, nothing_labelled, searched, with_event}
use Rattle.ics_calendar.specs.Inner.SharedFaults.{needed_by}
use Rattle.ics_calendar.proofs.labels.Labels.of.Goals as goal

pub loop-event-preserved : goal.loop-event-preserved
loop-event-preserved c =
    let needed = needed_by c.args.shared.now in
    let one = searched c.args.are_alone in
    let yielded = map one c.loop-event.yielded in
    let event = c.in-Some.event in
    subst (λ had. AreLabels had c.add.new.self)
    (sym (ap (labelled needed) (map-append one c.loop-event.yielded (event ∷ [])) ∙ fold-append (with_event needed) nothing_labelled yielded (one event ∷ [])))
    (c.in_ok-add.ensures (labelled needed yielded) c.loop-event.invariant)
