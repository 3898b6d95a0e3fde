use Rattle.std.proofs.Common.{◌≡◌, map, refl, sym, ap, ◌∙◌}
use Rattle.std.proofs.lemmas.Result.{IfOk-weaker}
use Rattle.ics_calendar.specs.Inner.Labels.{AreLabels}
use Rattle.ics_calendar.specs.Inner.PartsRead.{labelled, rise_from, searched}
use Rattle.ics_calendar.specs.Inner.SharedFaults.{needed_by}
use Rattle.ics_calendar.proofs.AloneParts.{alike}
use Rattle.ics_calendar.proofs.labels.Labels.numbered.Goals as goal

pub returns-clause-faults : goal.returns-clause-faults
returns-clause-faults c =
    let needed = needed_by c.args.shared.now in
    let alone = c.uid_numbers_rise-are_alone.result in
    let same = alike needed (λ event. refl) alone c.args.events.items
    (ap (rise_from 0) (sym c.deref.ensures.value) ∙ sym c.uid_numbers_rise-are_alone.ensures) in
    IfOk-weaker c.of.result (AreLabels (labelled needed (map (searched alone) c.args.events.items)))
    (λ labels. labels.faults.items ≡ (labelled needed c.args.events.items).numbered.faults) (λ labels are. are.numbered.first ∙ sym same.faults) c.of.ensures

pub returns-clause-events : goal.returns-clause-events
returns-clause-events c =
    let needed = needed_by c.args.shared.now in
    let alone = c.uid_numbers_rise-are_alone.result in
    let same = alike needed (λ event. refl) alone c.args.events.items
    (ap (rise_from 0) (sym c.deref.ensures.value) ∙ sym c.uid_numbers_rise-are_alone.ensures) in
    IfOk-weaker c.of.result (AreLabels (labelled needed (map (searched alone) c.args.events.items)))
    (λ labels. labels.events.items ≡ (labelled needed c.args.events.items).events) (λ labels are. are.events ∙ sym same.events) c.of.ensures
