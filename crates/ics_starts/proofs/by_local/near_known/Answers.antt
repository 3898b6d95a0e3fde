use Rattle.std.proofs.Common.{◌≡◌, ◌+◌, ◌-ℤ◌, ◌+ℤ◌, ℤ, pos, get_or, sym, ap, subst, rules, to_z, of_z, w64}
use Rattle.std.specs.List.Sorted.{IsPermutation}
use Rattle.std.proofs.lemmas.List.Sorted.{IsNonDecreasingBy-from_sort_by_key}
use Rattle.ics_fields.specs.Locals.{whole_days}
use Rattle.ics_starts.specs.declared.by_local.PlacedLocal.{PlacedLocal}
use Rattle.ics_starts.specs.Inner.ByLocal.{nowhere}
use Rattle.ics_starts.proofs.ByLocalLemmas.{found-known, found-more, found-none, AreFound}
use Rattle.ics_starts.proofs.by_local.near_known.Goals as goal

pub loop-moment-init : goal.loop-moment-init
loop-moment-init c = λ locals placed.
    subst (AreFound locals 0 c.args.running.now) (sym c.new-near.ensures.items) (found-none locals c.args.running.now)

pub loop-moment-preserved : goal.loop-moment-preserved
loop-moment-preserved c = λ locals placed.
    let moment : ℤ = get_or c.args.running.now c.loop-moment.moment-index (pos 0) in
    let same : to_z w64 (of_z w64 (get_or c.args.running.now c.loop-moment.moment-index (pos 0))) ≡ moment = search rules in
    subst (AreFound locals (c.loop-moment.moment-index + 1) c.args.running.now) (sym c.in_ok-extend_from_slice.ensures.items)
    (found-more c.loop-moment.near.items c.about.result.now (c.loop-moment.invariant locals placed) (c.about.ensures locals placed) (pos 0)
    c.loop-moment-test.true (ap (λ t. t -ℤ whole_days 4) same) (ap (λ t. t +ℤ whole_days 4) same))

pub returns : goal.returns
returns c = λ locals placed.
    let near = c.loop-moment.near.items in
    let last = c.about-2.result.now in
    let sorted = c.sort_unstable_by_key.new.self.items in
    let from : to_z w64 (of_z w64 c.args.from) ≡ c.args.from = search rules in
    let to : to_z w64 (of_z w64 c.args.to) ≡ c.args.to = search rules in
    found-known near last (c.loop-moment.invariant locals placed) (c.about-2.ensures locals placed) sorted c.loop-moment-test.false
    (ap (λ t. t -ℤ whole_days 4) from) (ap (λ t. t +ℤ whole_days 4) to)
    (subst (λ xs. IsPermutation xs sorted) c.in_ok-extend_from_slice-2.ensures.items c.sort_unstable_by_key.ensures.permutation)
    (λ j k l h. IsNonDecreasingBy-from_sort_by_key (λ (p : PlacedLocal). p.place) sorted c.sort_unstable_by_key.ensures.sorted (λ a r f' k. search rules)
    j k nowhere l h)
