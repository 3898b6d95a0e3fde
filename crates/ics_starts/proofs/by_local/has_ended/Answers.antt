use Rattle.std.proofs.Common.{◌≡◌, ◌∙◌, ℤ, Some, List, length, refl, ap, subst, rules, arith, slice_get, w64, to_z, of_z}
use Rattle.std.proofs.lemmas.Int.{ints}
use Rattle.std.proofs.lemmas.Option.{slice_get_read}
use Rattle.ics_starts.specs.Inner.ByLocal.{AreDatesOf, HasDates}
use Rattle.ics_starts.specs.Starts.{given_by}
use Rattle.ics_starts.specs.declared.by_local.DatesByLocal.{DatesByLocal}
use Rattle.ics_starts.proofs.NearLemmas.{ended-later}
use Rattle.ics_zone.proofs.Cases.{int_le_true}
use Rattle.ics_starts.proofs.by_local.has_ended.Goals as goal

pub returns-in-Some-get : goal.returns-in-Some-get
returns-in-Some-get c = λ event rdate has told stands.
    let dates : AreDatesOf event c.in-Some.dates.value = subst (HasDates event) c.in-Some.is has in
    let last = c.in-Some-get.last.now in
    let items : c.deref-2.result.now ≡ c.in-Some.dates.value.lasts.items =
    c.deref-2.ensures.value ∙ ap (λ (d : DatesByLocal). d.lasts.items) c.deref.ensures in
    let there : slice_get c.in-Some.dates.value.lasts.items c.args.place ≡ Some last = subst (λ (xs : List ℤ). slice_get xs c.args.place ≡ Some last) items
    (slice_get_read c.deref-2.result.now (length c.deref-2.result.now) c.args.place last refl c.in-Some-get.ensures.lookup.3.0
    c.in-Some-get.ensures.lookup.1) in
    let before = int_le_true (to_z w64 (of_z w64 last)) (to_z w64 (of_z w64 c.args.by)) told in
    let by : to_z w64 (of_z w64 c.args.by) ≡ c.args.by = search rules in
    let same : to_z w64 (of_z w64 last) ≡ last = search rules in
    ended-later (given_by event.start rdate) (omega (arith, ints, before, by, same)) (dates.lasts c.args.place rdate last stands there)
