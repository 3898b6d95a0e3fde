use Rattle.std.proofs.Common.{rules, ◌≡◌, ◌<ℤ◌, ◌≤ℤ◌, ◌-ℤ◌, ◌+ℤ◌, ℤ, arith, int_le, SFits, to_z, of_z, w64}
use Rattle.std.specs.Int.{int_max, int_min}
use Rattle.std.proofs.lemmas.Bool.{and_parts}
use Rattle.std.proofs.lemmas.Int.{int_max_is, int_min_is, ints, to_z-of_z}
use Rattle.ics_zone.proofs.Cases.{int_le_true}
use Rattle.ics_zone.specs.Seconds.{IsMoment, IsNear}
use Rattle.ics_zone.specs.declared.stretch.Stretch.{Stretch}
use Rattle.ics_listing.specs.FileClocks.{Clock}
use Rattle.ics_starts.specs.Clocks.{local_at, IsStretched}
use Rattle.ics_days.proofs.ShownLemmas.{offset-in}
use Rattle.ics_days.proofs.near_days.shown_from.Goals as goal

module _ (s : Stretch) (local to : ℤ) (offset : IsNear s.offset) where
  -- what is computed of the locals fits
  end-is : IsMoment to → to_z w64 (of_z w64 (to_z w64 (of_z w64 to) +ℤ to_z w64 (of_z w64 s.offset))) ≡ to +ℤ s.offset
  end-is m = omega (arith, ints, m, offset)

  local-is : IsMoment local → IsNear s.shown
      → to_z w64 (of_z w64 (to_z w64 (of_z w64 (to_z w64 (of_z w64 local) +ℤ to_z w64 (of_z w64 s.offset))) -ℤ to_z w64 (of_z w64 s.shown)))
      ≡ (local +ℤ s.offset) -ℤ s.shown
  local-is m shown = omega (arith, ints, m, offset, shown)

  -- the first local of the stretch from which on the clock shows none before
  module _ {first : ℤ} (is : first ≡ int_max s.from ((local +ℤ s.offset) -ℤ s.shown)) where
    first-fits : IsMoment local → IsMoment to → IsNear s.shown → s.from ≤ℤ (to +ℤ s.offset)
        → SFits w64 (first -ℤ s.offset)
    first-fits m n shown from =
        omega (arith, ints, is, m, n, offset, shown, from, int_max_is s.from ((local +ℤ s.offset) -ℤ s.shown))

    module _ {last : ℤ} (at : last ≡ int_min to (first -ℤ s.offset)) where
      last-low : int_min to (local -ℤ s.shown) ≤ℤ last
      last-low =
          omega (
            arith,
            ints,
            is,
            at,
            int_max_is s.from ((local +ℤ s.offset) -ℤ s.shown),
            int_min_is to (first -ℤ s.offset),
            int_min_is to (local -ℤ s.shown),
          )

      shown-later : (clock : Clock) → IsStretched clock s → (to +ℤ s.offset) ≤ℤ s.to → (t : ℤ) → last ≤ℤ t → t <ℤ to → local ≤ℤ local_at clock t
      shown-later clock stretch reach t from before =
          let greater = int_max_is s.from ((local +ℤ s.offset) -ℤ s.shown) in
          let lesser = int_min_is to (first -ℤ s.offset) in
          let one = offset-in stretch t (omega (arith, ints, is, at, greater, lesser, from, before)) (omega (arith, ints, reach, before)) in
          omega (arith, ints, one, is, at, greater, lesser, from, before)

pub overflow_sub-first : goal.overflow_sub-first
overflow_sub-first c =
    let s = c.args.stretch in
    let begin : to_z w64 (of_z w64 c.args.stretch.from) ≡ c.args.stretch.from = search rules in
    let offset : to_z w64 (of_z w64 c.args.stretch.offset) ≡ c.args.stretch.offset = search rules in
    let first = rw (begin, local-is s c.args.local c.args.to c.requires.offset c.requires.local c.requires.shown) at c.max-first.ensures.value in
    let from = to_z w64 (of_z w64 c.args.stretch.from) in
    let end = to_z w64 (of_z w64 (to_z w64 (of_z w64 c.args.to) +ℤ to_z w64 (of_z w64 c.args.stretch.offset))) in
    let both = and_parts (int_le from end) (int_le end (to_z w64 (of_z w64 c.args.stretch.to))) c.if-stretch-end.true in
    let low = rw (begin, end-is s c.args.local c.args.to c.requires.offset c.requires.to) at (int_le_true from end both.0) in
    rw (to_z-of_z w64 c.max-first.result (record { sfits = c.max-first.type_inv }), offset)
    (first-fits s c.args.local c.args.to c.requires.offset first c.requires.local c.requires.to c.requires.shown low)

pub returns-then-stretch-end-clause-low : goal.returns-then-stretch-end-clause-low
returns-then-stretch-end-clause-low c =
    let s = c.args.stretch in
    let begin : to_z w64 (of_z w64 c.args.stretch.from) ≡ c.args.stretch.from = search rules in
    let offset : to_z w64 (of_z w64 c.args.stretch.offset) ≡ c.args.stretch.offset = search rules in
    let to : to_z w64 (of_z w64 c.args.to) ≡ c.args.to = search rules in
    let first = rw (begin, local-is s c.args.local c.args.to c.requires.offset c.requires.local c.requires.shown) at c.max-first.ensures.value in
    let from = to_z w64 (of_z w64 c.args.stretch.from) in
    let end = to_z w64 (of_z w64 (to_z w64 (of_z w64 c.args.to) +ℤ to_z w64 (of_z w64 c.args.stretch.offset))) in
    let both = and_parts (int_le from end) (int_le end (to_z w64 (of_z w64 c.args.stretch.to))) c.if-stretch-end.true in
    let low = rw (begin, end-is s c.args.local c.args.to c.requires.offset c.requires.to) at (int_le_true from end both.0) in
    let fits = first-fits s c.args.local c.args.to c.requires.offset first c.requires.local c.requires.to c.requires.shown low in
    let last = rw (
      to,
      to_z-of_z w64 c.max-first.result (record { sfits = c.max-first.type_inv }),
      offset,
      to_z-of_z w64 (c.max-first.result -ℤ c.args.stretch.offset) fits,
    ) at c.min.ensures.value in
    rw (to_z-of_z w64 c.min.result (record { sfits = c.min.type_inv })) (last-low s c.args.local c.args.to c.requires.offset first last)

pub returns-then-stretch-end-clause-later : goal.returns-then-stretch-end-clause-later
returns-then-stretch-end-clause-later c =
    let s = c.args.stretch in
    let begin : to_z w64 (of_z w64 c.args.stretch.from) ≡ c.args.stretch.from = search rules in
    let reached : to_z w64 (of_z w64 c.args.stretch.to) ≡ c.args.stretch.to = search rules in
    let offset : to_z w64 (of_z w64 c.args.stretch.offset) ≡ c.args.stretch.offset = search rules in
    let to : to_z w64 (of_z w64 c.args.to) ≡ c.args.to = search rules in
    let first = rw (begin, local-is s c.args.local c.args.to c.requires.offset c.requires.local c.requires.shown) at c.max-first.ensures.value in
    let from = to_z w64 (of_z w64 c.args.stretch.from) in
    let edge = to_z w64 (of_z w64 c.args.stretch.to) in
    let end = to_z w64 (of_z w64 (to_z w64 (of_z w64 c.args.to) +ℤ to_z w64 (of_z w64 c.args.stretch.offset))) in
    let both = and_parts (int_le from end) (int_le end edge) c.if-stretch-end.true in
    let low = rw (begin, end-is s c.args.local c.args.to c.requires.offset c.requires.to) at (int_le_true from end both.0) in
    let high = rw (reached, end-is s c.args.local c.args.to c.requires.offset c.requires.to) at (int_le_true end edge both.1) in
    let fits = first-fits s c.args.local c.args.to c.requires.offset first c.requires.local c.requires.to c.requires.shown low in
    let last = rw (
      to,
      to_z-of_z w64 c.max-first.result (record { sfits = c.max-first.type_inv }),
      offset,
      to_z-of_z w64 (c.max-first.result -ℤ c.args.stretch.offset) fits,
    ) at c.min.ensures.value in
    rw (to_z-of_z w64 c.min.result (record { sfits = c.min.type_inv }))
    (λ clock stretch. shown-later s c.args.local c.args.to c.requires.offset first last clock stretch high)

pub returns-clause-low : goal.returns-clause-low
returns-clause-low c = omega (arith, ints, c.ranges.to, int_min_is c.args.to (c.args.local -ℤ c.args.stretch.shown))
