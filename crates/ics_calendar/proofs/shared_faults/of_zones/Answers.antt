use Rattle.std.proofs.Common.{sym, ap, ◌∙◌, cond, take, None, Option}
use Rattle.ics_components.specs.declared.fault.Fault.{Fault}
use Rattle.std.specs.BTreeMap.{get}
use Rattle.std.specs.Option.{option_or}
use Rattle.ics_calendar.specs.Inner.PartsRead.{fault_read, fault_under, has_name, zone_fault}
use Rattle.ics_calendar.specs.ZoneTables.{name_cmp}
use Rattle.ics_calendar.proofs.FilesGiven.{or-none}
use Rattle.ics_calendar.proofs.Shared.{none-both, zone-next}
use Rattle.ics_calendar.proofs.shared_faults.of_zones.Goals as goal
use Rattle.ics_calendar.proofs.shared_faults.of_zones.Goals.{in-Err+in_ok-note_zone-in-Err, in-Ok}

pub loop-zone-preserved : goal.loop-zone-preserved
loop-zone-preserved c = λ used.
    let zones = c.args.zones.now in
    let i = c.loop-zone.zone-index in
    let next = (λ j. option_or (zone_fault (take i zones) used) (fault_under (c.zone.view_is j) used))
    ∙ sym (zone-next zones i c.zone-item.result used c.zone-item.is c.loop-zone-test.true) in
    elim c.match-zone.branch [
      | in-Err+in_ok-note_zone-in-Err w ↦
          (λ j. get name_cmp (w.first-is j) used) ∙ w.in_ok-note_zone-in-Err.ensures used
          ∙ (λ j. option_or (c.loop-zone.invariant used j)
          (cond (has_name c.zone.inside.calendar (w.deref.ensures.value j) used) (sym (ap fault_read w.in-Err.is) j) None)) ∙ next
      | in-Ok w ↦
          (λ j. get name_cmp (w.first-is j) used) ∙ c.loop-zone.invariant used ∙ sym (or-none (zone_fault (take i zones) used))
          ∙ ap (option_or (zone_fault (take i zones) used))
          (sym (ap (λ (o : Option Fault). cond (has_name c.zone.inside.calendar c.zone.inside.names.items used) o None) (ap fault_read w.in-Ok.is)
          ∙ none-both (has_name c.zone.inside.calendar c.zone.inside.names.items used) None)) ∙ next
    ]
