use Rattle.std.proofs.Common.{◌≡◌, ◌∙◌, ◌<◌, ◌+ℤ◌, ◌-ℤ◌, ◌≤ℤ◌, Some, slice_get, length, refl, ap, rules, arith, int_lt, pos, to_z, of_z, w64}
use Rattle.std.proofs.lemmas.Int.{ints}
use Rattle.std.proofs.lemmas.List.Sorted.{IsPartitionPoint-from_clause}
use Rattle.std.proofs.lemmas.Option.{slice_get_read}
use Rattle.ics_fields.specs.Locals.{whole_days}
use Rattle.std.specs.Int.{saturate_signed}
use Rattle.ics_listing.proofs.Cases.{moment-back}
use Rattle.ics_listing.specs.Listing.{IsIn}
use Rattle.ics_listing.proofs.ListingLemmas.{contains-in, get-in}
use Rattle.ics_starts.specs.declared.by_local.PlacedLocal.{PlacedLocal}
use Rattle.ics_starts.specs.Inner.ByLocal.{AreNearIn}
use Rattle.ics_zone.proofs.Cases.{int_lt_true}
use Rattle.ics_starts.proofs.ByLocalLemmas.{near-at, next-none, next-some, not-before, parted, rising-of, saturated}
use Rattle.ics_starts.proofs.by_local.next_of.Goals as goal
use Rattle.ics_starts.proofs.by_local.next_of.Goals.{in-None, in-Some}

pub returns : goal.returns
returns c = λ locals placed.
    let xs = c.args.places.now in
    let from = c.args.from in
    let past = from +ℤ whole_days 2 in
    let count = c.partition_point-count.result in
    let low : to_z w64 (of_z w64 (to_z w64 (of_z w64 c.args.from) -ℤ pos 172_800)) ≡ c.args.from -ℤ whole_days 2 =
    omega (arith, ints, c.requires.0, c.requires.1) in
    let near : AreNearIn locals (c.args.from -ℤ whole_days 2) (to_z w64 c.match-get.end-bits) c.between.result.now =
    near-at c.between.result.now low refl (c.between.ensures locals placed) in
    let point = IsPartitionPoint-from_clause (λ (p : PlacedLocal). int_lt p.local past) _ _ c.partition_point-count.ensures.partitioned
    (parted xs past (rising-of xs placed.rise)) (λ a r q k. search rules) in
    elim c.match-get.branch [
      | in-None w ↦
          let lookup = w.in-None.ensures.lookup in
          let is : to_z w64 c.match-get.end-bits ≡ c.args.from +ℤ whole_days 2 = omega (arith, ints, w.end-is, c.requires.0, c.requires.1) in
          next-none placed from c.between.result.now near (λ p m.
          let at = contains-in p xs m in
          let there : at.0 < count = omega (arith, lookup, at.1) in
          let before = int_lt_true _ past (point.0 at.0 p (omega arith) there) in
          let same = ap (λ (q : PlacedLocal). q.local) at.2 in
          omega (arith, ints, before, same, is))
      | in-Some w ↦
          let first = w.in-Some.first.now in
          let lookup = w.in-Some.ensures.lookup in
          let there : slice_get c.args.places.now c.partition_point-count.result ≡ Some w.in-Some.first.now =
          slice_get_read c.args.places.now (length c.args.places.now) c.partition_point-count.result w.in-Some.first.now refl lookup.3.0 lookup.1 in
          let member : IsIn w.in-Some.first.now c.args.places.now = get-in first xs count there in
          let late = not-before _ past (point.1 count first (omega arith) lookup.3.0) in
          let same = ap (λ (q : PlacedLocal). q.local) lookup.1 in
          let past : (c.args.from +ℤ whole_days 2) ≤ℤ w.in-Some.first.now.local = omega (arith, ints, late, same) in
          let early = (placed.written first member).1 in
          let kept = saturated (first.local +ℤ whole_days 4) (omega (arith, ints, past, c.requires.0)) (omega (arith, ints, early)) in
          let back : to_z w64 (of_z w64 w.in-Some.first.now.local) ≡ w.in-Some.first.now.local = omega (arith, ints, early, past, c.requires.0) in
          let sum : w.saturating_add-end.result ≡ w.in-Some.first.now.local +ℤ whole_days 4 =
          w.saturating_add-end.ensures ∙ (ap (λ t. saturate_signed w64 (t +ℤ whole_days 4)) back ∙ kept) in
          let is = w.end-is ∙ (moment-back w.saturating_add-end.result w.saturating_add-end.type_inv ∙ sum) in
          next-some placed from c.between.result.now near (record { first = first; member = member; past = past; is = is })
    ]
