use Rattle.std.proofs.Common.{◌≡◌, ◌<◌, ◌≤◌, refl, rules, arith, length, get_or, SFits, sym, subst, w32, w64}
use Rattle.std.proofs.lemmas.Int.{ints, to_z-of_z}
use Rattle.ics_fields.specs.Days.{IsDayNumber, IsStampDay}
use Rattle.ics_fields.specs.Locals.{number}
use Rattle.ics_fields.specs.declared.local.Local.{Local}
use Rattle.ics_zone.specs.Observances.{ObservanceSaid, instant_by}
use Rattle.ics_zone.proofs.ListingLemmas.{instants_more, listing_of}
use Rattle.ics_zone.proofs.onsets.listed.Goals as goal

pub loop-rdate-init : goal.loop-rdate-init
loop-rdate-init c =
    let from : SFits w32 c.observance.inside.offset_from = search rules in
    let at = simp (to_z-of_z, from, c.number.ensures.value) at c.instant.ensures in
    rw (← c.observance.view_is, c.in_ok-push.ensures.items, c.new-listed.ensures.items, to_z-of_z w64 c.instant.result (search rules), at) refl

-- each RDATE is in the years of stamps
in_calendar : (local : Local) → IsStampDay local.day → IsDayNumber local.day
in_calendar local h = (omega (arith, ints, h), omega (arith, ints, h))

pub number-requires-in-loop-rdate : goal.number-requires-in-loop-rdate
number-requires-in-loop-rdate c =
    let inside = rw c.deref-rdate-items.ensures.value at c.loop-rdate-test.true in
    let is = rw c.deref-rdate-items.ensures.value at c.rdate-item.is in
    let all = rw (← c.observance.view_is) at c.requires.rdates_in in
    in_calendar c.rdate-item.result
    (subst (λ (local : Local). IsStampDay local.day) (sym is) (all c.loop-rdate.rdate-index c.rdate-item.result inside))

pub loop-rdate-preserved : goal.loop-rdate-preserved
loop-rdate-preserved c =
    let from : SFits w32 c.observance.inside.offset_from = search rules in
    let small : SFits w64 c.instant-in-loop-rdate.result = search rules in
    let inside = rw c.deref-rdate-items.ensures.value at c.loop-rdate-test.true in
    let is = rw c.deref-rdate-items.ensures.value at c.rdate-item.is in
    let items = simp to_z-of_z at c.in_ok-push-2.ensures.items in
    let at = simp (to_z-of_z, c.number-in-loop-rdate.ensures.value) at c.instant-in-loop-rdate.ensures in
    instants_more c.args.observance.now c.loop-rdate.rdate-index
    (subst (λ (o : ObservanceSaid). c.loop-rdate.rdate-index < length o.rdates) c.observance.view_is inside)
    (subst (λ (o : ObservanceSaid). c.rdate-item.result ≡ get_or o.rdates c.loop-rdate.rdate-index c.rdate-item.result) c.observance.view_is is)
    (subst (λ (o : ObservanceSaid). c.instant-in-loop-rdate.result ≡ instant_by o.offset_from (number c.rdate-item.result)) c.observance.view_is at)
    items c.loop-rdate.invariant

pub returns : goal.returns
returns c =
    let past = rw c.deref-rdate-items.ensures.value at c.loop-rdate-test.false in
    listing_of c.args.observance.now c.loop-rdate.rdate-index
    (subst (λ (o : ObservanceSaid). length o.rdates ≤ c.loop-rdate.rdate-index) c.observance.view_is past)
    (rw c.loop-rdate.invariant at c.sort_unstable.ensures.permutation) c.sort_unstable.ensures.sorted
