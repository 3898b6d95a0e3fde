use Rattle.std.proofs.Common.{◌≡◌, ◌∙◌, ◌-ℤ◌, ap, sym, subst, rules, arith, to_z, of_z, w64}
use Rattle.std.proofs.lemmas.Int.{ints}
use Rattle.ics_starts.specs.declared.by_local.DatesByLocal.{DatesByLocal}
use Rattle.ics_starts.specs.Inner.ByLocal.{rdate_locals, AreByLocal, AreDatesOf, HasDates}
use Rattle.ics_starts.proofs.ByLocalLemmas.{near-at, spans-near}
use Rattle.ics_starts.proofs.by_local.near_spans.Goals as goal

pub returns-in-Some : goal.returns-in-Some
returns-in-Some c =
    let event = c.args.event.now in
    let dates : AreDatesOf c.args.event.now c.in-Some.dates.value = subst (HasDates c.args.event.now) c.in-Some.is c.requires.dates in
    let most : c.deref-in-Some-2.result.now.longest ≡ c.in-Some.dates.value.longest = ap (λ (d : DatesByLocal). d.longest) c.deref-in-Some-2.ensures in
    let from :
    to_z w64 (of_z w64 (to_z w64 (of_z w64 c.args.by) -ℤ to_z w64 (of_z w64 c.deref-in-Some-2.result.now.longest)))
    ≡ c.args.by -ℤ c.in-Some.dates.value.longest =
    omega (arith, ints, most, dates.longest.least, dates.longest.most, c.requires.by.0, c.requires.by.1) in
    let to : to_z w64 (of_z w64 c.args.to) ≡ c.args.to = search rules in
    let items : c.deref-in-Some.result.now ≡ c.in-Some.dates.value.rdates.items =
    c.deref-in-Some.ensures.value ∙ ap (λ (d : DatesByLocal). d.rdates.items) c.deref.ensures in
    spans-near event c.between.result dates.longest (near-at c.between.result.now from to
    (c.between.ensures (rdate_locals event) (subst (AreByLocal (rdate_locals event)) (sym items) dates.rdates)))
