use Rattle.std.proofs.Common.{◌≡◌, ◌∙◌, ap, sym, subst, rules, to_z, of_z, w64}
use Rattle.ics_starts.specs.declared.by_local.DatesByLocal.{DatesByLocal}
use Rattle.ics_starts.specs.Inner.ByLocal.{rdate_locals, AreByLocal, AreDatesOf, AreNextIn, HasDates}
use Rattle.ics_starts.proofs.by_local.next_rdates.Goals as goal

pub returns-in-Some : goal.returns-in-Some
returns-in-Some c =
    let event = c.args.event.now in
    let from : to_z w64 (of_z w64 c.args.from) ≡ c.args.from = search rules in
    let dates : AreDatesOf c.args.event.now c.in-Some.dates.value = subst (HasDates c.args.event.now) c.in-Some.is c.requires.dates in
    let items : c.deref-in-Some.result.now ≡ c.in-Some.dates.value.rdates.items =
    c.deref-in-Some.ensures.value ∙ ap (λ (d : DatesByLocal). d.rdates.items) c.deref.ensures in
    subst (λ t. AreNextIn (rdate_locals event) t c.next_of.result.now) from
    (c.next_of.ensures (rdate_locals event) (subst (AreByLocal (rdate_locals event)) (sym items) dates.rdates))
