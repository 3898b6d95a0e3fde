use Rattle.std.proofs.Common.{◌≡◌, ◌-◌, length, take, drop, sym, subst, rules, arith, int_lt}
use Rattle.std.specs.List.Sorted.{IsPartitionedBy}
use Rattle.std.proofs.lemmas.Int.{ints}
use Rattle.std.proofs.lemmas.List.{length-drop, take_all}
use Rattle.std.proofs.lemmas.List.Sorted.{IsPartitionPoint-from_clause}
use Rattle.ics_listing.specs.Listing.{IsIn}
use Rattle.ics_starts.specs.declared.by_local.PlacedLocal.{PlacedLocal}
use Rattle.ics_zone.proofs.Cases.{int_lt_true}
use Rattle.ics_starts.proofs.ByLocalLemmas.{in-drop, in-take, kept-drop, kept-take, near-of, not-before, parted, rising-drop, rising-of}
use Rattle.ics_starts.proofs.by_local.between.Goals as goal

pub returns : goal.returns
returns c = λ locals placed.
    let xs = c.args.places.now in
    let i = c.partition_point-first.result in
    let n = c.partition_point-count.result in
    let from = c.args.from in
    let to = c.args.to in
    let behind = take (length xs - i) (drop i xs) in
    let whole : behind ≡ drop i xs = take_all (length xs - i) (drop i xs) (omega (arith, length-drop i xs)) in
    let up = rising-of xs placed.rise in
    let first = IsPartitionPoint-from_clause (λ (p : PlacedLocal). int_lt p.local from) _ _ c.partition_point-first.ensures.partitioned (parted xs from up)
    (λ a r q k. search rules) in
    let next = IsPartitionPoint-from_clause (λ (p : PlacedLocal). int_lt p.local to) _ _ c.partition_point-count.ensures.partitioned
    (subst (IsPartitionedBy (λ (p : PlacedLocal). int_lt p.local to)) (sym whole) (parted (drop i xs) to (rising-drop i xs up))) (λ a r q k. search rules) in
    near-of placed from to (take n behind)
    (λ p m. in-drop i xs p (subst (IsIn p) whole (in-take n behind p m)))
    (λ p m low high. kept-take n behind p (λ k d l h. let past = not-before _ to (next.1 k d l h) in omega (arith, ints, past, high))
    (subst (IsIn p) (sym whole)
    (kept-drop i xs p (λ k d l. let before = int_lt_true _ from (first.0 k d (omega arith) l) in omega (arith, ints, before, low)) m)))
