use Rattle.std.proofs.Common.{sym, ap, ◌∙◌, ◌∷◌, [], take, ℕ, List, Option}
use Rattle.std.specs.BTreeMap.{get}
use Rattle.std.specs.Ordering.{nat_cmp}
use Rattle.std.proofs.lemmas.Grind.{fold-append}
use Rattle.ics_components.specs.declared.fault.Fault.{Fault}
use Rattle.ics_components.specs.PartFaults.{earlier}
use Rattle.ics_calendar.specs.Inner.SharedFaults.{shared_beside}
use Rattle.ics_calendar.specs.ZoneTables.{name_cmp}
use Rattle.ics_calendar.proofs.PartsGiven.{next-take}
use Rattle.ics_calendar.proofs.shared_faults.SharedFaults.beside.Goals as goal

pub loop-name-preserved : goal.loop-name-preserved
loop-name-preserved c =
    let names = c.args.names.now in
    let i = c.loop-name.name-index in
    let calendar = c.args.calendar in
    let shared = c.args.self.now in
    let step : Option Fault → List ℕ → Option Fault = λ first name. earlier first (get name_cmp shared.zones (record { calendar = calendar; name = name })) in
    c.earlier-first.ensures ∙ (λ j. earlier (c.loop-name.invariant j) (c.in_ok-other.ensures j))
    ∙ sym (fold-append step (get nat_cmp shared.calendars calendar) (take i names) (c.name-item.result ∷ []))
    ∙ ap (shared_beside shared calendar) (sym (next-take names i c.name-item.result c.name-item.is c.loop-name-test.true))
