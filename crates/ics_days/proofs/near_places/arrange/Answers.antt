use Rattle.std.proofs.Common.{arith, sym, subst}
use Rattle.std.specs.Cmp.{nat_cmp_total, unsigned_ties}
use Rattle.std.specs.Ordering.{nat_cmp}
use Rattle.std.proofs.lemmas.List.{take_all}
use Rattle.std.proofs.lemmas.List.Filters.{dedup_is}
use Rattle.std.proofs.lemmas.List.Kept.{Contains-dedup_nat, Contains-from_dedup, IsStrictlySortedBy-dedup}
use Rattle.std.proofs.lemmas.List.Sorted.{Contains-permutation, IsPermutation-sym}
use Rattle.ics_listing.specs.Listing.{IsIn}
use Rattle.ics_listing.specs.Rising.{Rises}
use Rattle.ics_listing.proofs.ListingLemmas.{contains-in, in-contains}
use Rattle.ics_days.proofs.NearPlaceLemmas.{strictly-rises}
use Rattle.ics_days.proofs.near_places.arrange.Goals as goal

pub returns-then-before-len-clause-rises : goal.returns-then-before-len-clause-rises
returns-then-before-len-clause-rises c =
    let is = dedup_is _ _ _ c.dedup.ensures.filtered in
    subst (Rises nat_cmp) (sym is)
    (strictly-rises nat_cmp _ (IsStrictlySortedBy-dedup nat_cmp_total unsigned_ties c.sort_unstable.new.self.items c.sort_unstable.ensures.sorted))

pub returns-else-before-len-clause-rises : goal.returns-else-before-len-clause-rises
returns-else-before-len-clause-rises c =
    subst (Rises nat_cmp) (take_all c.args.before c.args.near.now.items (omega (arith, c.if-before-len.false))) c.requires

pub returns-then-before-len-clause-same : goal.returns-then-before-len-clause-same
returns-then-before-len-clause-same c = λ k.
    let is = dedup_is _ _ _ c.dedup.ensures.filtered in
    let before = c.args.near.now.items in
    let sorted = c.sort_unstable.new.self.items in
    let permutation = c.sort_unstable.ensures.permutation in (
      λ m. in-contains k before (Contains-permutation sorted before k (IsPermutation-sym before sorted permutation)
          (Contains-from_dedup _ sorted k (contains-in k _ (subst (IsIn k) is m)))),
      λ m. subst (IsIn k) (sym is)
          (in-contains k _ (Contains-dedup_nat sorted k (Contains-permutation before sorted k permutation (contains-in k before m)))),
    )
