use Rattle.std.proofs.Common.{◌≡◌, ◌∙◌, ap, sym, subst, rules, to_z, of_z, w64}
use Rattle.std.proofs.lemmas.Result.{IfOk-weaker}
use Rattle.ics_starts.specs.declared.by_local.DatesByLocal.{DatesByLocal}
use Rattle.ics_starts.specs.Inner.ByLocal.{exdate_locals, AreByLocal, AreDatesOf, AreKnownOf, HasDates}
use Rattle.ics_starts.proofs.by_local.near_exdates.Goals as goal

pub returns-in-Some : goal.returns-in-Some
returns-in-Some c =
    let locals = exdate_locals c.args.event.now in
    let running = c.args.running.now in
    let from : to_z w64 (of_z w64 c.args.from) ≡ c.args.from = search rules in
    let to : to_z w64 (of_z w64 c.args.to) ≡ c.args.to = search rules in
    let dates : AreDatesOf c.args.event.now c.in-Some.dates.value = subst (HasDates c.args.event.now) c.in-Some.is c.requires in
    let places : c.deref-in-Some.result.now ≡ c.in-Some.dates.value.exdates.items =
    c.deref-in-Some.ensures.value ∙ ap (λ (d : DatesByLocal). d.exdates.items) c.deref.ensures in
    IfOk-weaker c.near_known.result _ (AreKnownOf locals c.args.from running c.args.to)
    (λ near known. subst (λ t. AreKnownOf locals c.args.from running t near) to
    (subst (λ t. AreKnownOf locals t running (to_z w64 (of_z w64 c.args.to)) near) from
    (known locals (subst (AreByLocal locals) (sym places) dates.exdates)))) c.near_known.ensures
