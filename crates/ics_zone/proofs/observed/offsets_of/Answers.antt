use Rattle.std.proofs.Common.{rules, SFits, w32}
use Rattle.std.proofs.lemmas.Bool.Decides.{Decides-int_eq}
use Rattle.std.proofs.lemmas.Cmp.{int_eq_equiv}
use Rattle.std.proofs.lemmas.Int.{to_z-of_z}
use Rattle.std.proofs.lemmas.List.{take_all}
use Rattle.std.proofs.lemmas.List.Filters.{dedup_is}
use Rattle.std.proofs.lemmas.List.Kept.{Contains-dedup}
use Rattle.std.proofs.lemmas.List.Sorted.{Contains-permutation}
use Rattle.ics_zone.proofs.ReadLemmas.{both_more, have_both, offsets_within}
use Rattle.ics_zone.proofs.observed.offsets_of.Goals as goal

pub loop-observance-preserved : goal.loop-observance-preserved
loop-observance-preserved c =
    let to : SFits w32 c.observance.inside.offset_to = search rules in
    let from : SFits w32 c.observance.inside.offset_from = search rules in
    both_more c.args.observances.now c.loop-observance-test.true (rw (← c.observance.view_is) at c.observance-item.is)
    (simp to_z-of_z at c.in_ok-push.ensures.items) (simp to_z-of_z at c.in_ok-push-2.ensures.items) c.loop-observance.invariant

-- sorted, without those that stand twice, and turned round they are the same offsets
pub returns : goal.returns
returns c =
    offsets_within _ _ _ (λ t h. Contains-permutation _ _ t c.reverse.ensures.permutation (rw (dedup_is _ _ _ c.dedup.ensures.filtered)
    (Contains-dedup int_eq_equiv (λ x y e. (Decides-int_eq x y).0 e) _ t (Contains-permutation _ _ t c.sort_unstable.ensures.permutation h))))
    (rw (c.loop-observance.invariant, take_all c.loop-observance.observance-index c.args.observances.now c.loop-observance-test.false)
    (have_both c.args.observances.now))
