use Rattle.std.proofs.Common.{rules, ◌≡◌, ◌∙◌, refl, ℤ, pos, ◌+ℤ◌, ◌-ℤ◌, ◌*ℤ◌, ◌≤ℤ◌, ◌<ℤ◌, arith, SFits, to_z, of_z, w32, w64}
use Rattle.std.specs.Int.{int_max, int_min}
use Rattle.std.proofs.lemmas.Int.{int_max_is, int_min_is, ints, to_z-of_z}
use Rattle.ics_zone.specs.Seconds.{IsDay, IsNear}
use Rattle.ics_zone.specs.declared.bounds.Bounds.{Bounds}
use Rattle.ics_fields.specs.Locals.{midnight}
use Rattle.ics_listing.specs.declared.window.Window.{Window}
use Rattle.ics_starts.specs.Clocks.{display_clock}
use Rattle.ics_days.specs.Offsets.{AreOffsets}
use Rattle.ics_days.specs.NearDays.{first_near, last_near}
use Rattle.ics_days.proofs.NearDayLemmas.{bounds-offsets, day-fits, later-on, near-ordered}
use Rattle.ics_days.proofs.near_days.near_day.Goals as goal

-- the ends of a window fit
ends-fit : (w : Window) → (to_z w64 (of_z w64 w.from) ≡ w.from) × (to_z w64 (of_z w64 w.to) ≡ w.to)
ends-fit w = (omega (arith, ints, w.ordered, w.not_early, w.not_late), omega (arith, ints, w.ordered, w.not_early, w.not_late))

-- so does the midnight of a near day, and what is counted from it
midnight-is : (day : ℤ) {from : ℤ} → IsDay day → from ≡ to_z w32 (of_z w32 day)
    → to_z w64 (of_z w64 (to_z w64 (of_z w64 from) *ℤ pos 86_400)) ≡ midnight day
midnight-is day within e = omega (arith, ints, e, within.0, within.1)

begin-fits : (day most : ℤ) → IsDay day → IsNear most
    → to_z w64 (of_z w64 (midnight day -ℤ to_z w64 (of_z w64 most))) ≡ midnight day -ℤ most
begin-fits day most within short = omega (arith, ints, within.0, within.1, short.0, short.1)

next-fits : (day : ℤ) → IsDay day → to_z w64 (of_z w64 (midnight day +ℤ pos 86_400)) ≡ midnight (day +ℤ pos 1)
next-fits day within = omega (arith, ints, within.0, within.1)

end-fits : (day least : ℤ) → IsDay day → IsNear least
    → to_z w64 (of_z w64 (midnight (day +ℤ pos 1) -ℤ to_z w64 (of_z w64 least))) ≡ midnight (day +ℤ pos 1) -ℤ least
end-fits day least within short = omega (arith, ints, within.0, within.1, short.0, short.1)

-- What a window holds near a day, by two offsets, and up to an instant in it.
module _ (w : Window) (b : Bounds) (are : AreOffsets b) (day : ℤ) (low : first_near w b ≤ℤ day) (high : day ≤ℤ last_near w b) where
  within : IsDay day
  within = day-fits w b are day low high

  module _ {read : ℤ} (r : read ≡ to_z w32 (of_z w32 day)) where
    from-is : {max : ℤ} → SFits w64 max → max ≡ int_max (to_z w64 (of_z w64 w.from))
        (to_z w64 (of_z w64 (to_z w64 (of_z w64 (to_z w64 (of_z w64 read) *ℤ pos 86_400)) -ℤ to_z w64 (of_z w64 b.most))))
        → to_z w64 (of_z w64 max) ≡ int_max w.from (midnight day -ℤ b.most)
    from-is {max = max} fits e =
        to_z-of_z w64 max fits ∙ rw ((ends-fit w).0, midnight-is day within r, begin-fits day b.most within are.most_short) at e

    to-is : {min : ℤ} → SFits w64 min → min ≡ int_min (to_z w64 (of_z w64 w.to)) (to_z w64 (of_z w64 (to_z w64
        (of_z w64 (to_z w64 (of_z w64 (to_z w64 (of_z w64 read) *ℤ pos 86_400)) +ℤ pos 86_400)) -ℤ to_z w64 (of_z w64 b.least))))
        → to_z w64 (of_z w64 min) ≡ int_min w.to (midnight (day +ℤ pos 1) -ℤ b.least)
    to-is {min = min} fits e =
        to_z-of_z w64 min fits
        ∙ rw ((ends-fit w).1, midnight-is day within r, next-fits day within, end-fits day b.least within are.least_short) at e

  module _ {from : ℤ} (is : from ≡ int_max w.from (midnight day -ℤ b.most)) where
    begins : (w.from ≤ℤ from) × (from <ℤ int_min w.to (midnight (day +ℤ pos 1) -ℤ b.least))
    begins =
        let ordered = near-ordered w b are day low high in
        (omega (arith, ints, is, int_max_is w.from (midnight day -ℤ b.most)), omega (arith, ints, is, ordered))

    last-is : {end max : ℤ} → SFits w64 end → SFits w64 max → max ≡ int_max (to_z w64 (of_z w64 end)) (to_z w64 (of_z w64 (from +ℤ pos 1)))
        → to_z w64 (of_z w64 max) ≡ int_max end (from +ℤ pos 1)
    last-is {end = end} {max = max} f fits e =
        let in-order = begins in
        let next : to_z w64 (of_z w64 (from +ℤ pos 1)) ≡ from +ℤ pos 1 =
        omega (arith, ints, in-order.0, in-order.1, int_min_is w.to (midnight (day +ℤ pos 1) -ℤ b.least), w.not_early, w.not_late) in
        to_z-of_z w64 max fits ∙ rw (to_z-of_z w64 end f, next) at e

    module _ {to end last : ℤ} (at : to ≡ int_min w.to (midnight (day +ℤ pos 1) -ℤ b.least)) (within-to : end ≤ℤ to)
        (last-at : last ≡ int_max end (from +ℤ pos 1)) where
      ends : (from <ℤ last) × ((last ≤ℤ int_min w.to (midnight (day +ℤ pos 1) -ℤ b.least)) × (end ≤ℤ last))
      ends =
          let in-order = begins in
          let is-max = int_max_is end (from +ℤ pos 1) in (
            omega (arith, ints, last-at, is-max),
            (omega (arith, ints, last-at, is-max, at, within-to, in-order.1), omega (arith, ints, last-at, is-max)),
          )

pub overflow_sub-midnight-2 : goal.overflow_sub-midnight-2
overflow_sub-midnight-2 c =
    let b = c.requires.bounded in
    let are = bounds-offsets (display_clock c.args.display.now) c.args.window.now c.args.bounds b in
    let day = day-fits c.args.window.now c.args.bounds are c.args.day c.requires.first c.requires.last in
    let short = b.least_short in
    rw (midnight-is c.args.day day c.from-midnight.ensures, next-fits c.args.day day) (omega (arith, ints, day.0, day.1, short.0, short.1))

pub later_from-end-requires-clause-offsets : goal.later_from-end-requires-clause-offsets
later_from-end-requires-clause-offsets c = bounds-offsets (display_clock c.args.display.now) c.args.window.now c.args.bounds c.requires.bounded

pub later_from-end-requires-clause-day : goal.later_from-end-requires-clause-day
later_from-end-requires-clause-day c =
    let are = bounds-offsets (display_clock c.args.display.now) c.args.window.now c.args.bounds c.requires.bounded in
    let fits : to_z w32 (of_z w32 c.args.day) ≡ c.args.day = search rules in
    rw fits (day-fits c.args.window.now c.args.bounds are c.args.day c.requires.first c.requires.last)

pub later_from-end-requires-clause-early : goal.later_from-end-requires-clause-early
later_from-end-requires-clause-early c =
    let w = c.args.window.now in
    let b = c.args.bounds in
    let are = bounds-offsets (display_clock c.args.display.now) c.args.window.now c.args.bounds c.requires.bounded in
    let to = to-is w b are c.args.day c.requires.first c.requires.last c.from-midnight.ensures (record { sfits = c.min-to.type_inv }) c.min-to.ensures.value in
    let ordered = near-ordered w b are c.args.day c.requires.first c.requires.last in
    omega (arith, ints, to, ordered, int_max_is, w.not_early)

pub later_from-end-requires-clause-late : goal.later_from-end-requires-clause-late
later_from-end-requires-clause-late c =
    let w = c.args.window.now in
    let b = c.args.bounds in
    let are = bounds-offsets (display_clock c.args.display.now) c.args.window.now c.args.bounds c.requires.bounded in
    let to = to-is w b are c.args.day c.requires.first c.requires.last c.from-midnight.ensures (record { sfits = c.min-to.type_inv }) c.min-to.ensures.value in
    omega (arith, ints, to, int_min_is, w.not_late)

pub overflow_add-from : goal.overflow_add-from
overflow_add-from c =
    let w = c.args.window.now in
    let b = c.args.bounds in
    let are = bounds-offsets (display_clock c.args.display.now) c.args.window.now c.args.bounds c.requires.bounded in
    let from = from-is w b are c.args.day c.requires.first c.requires.last c.from-midnight.ensures (record { sfits = c.max-from.type_inv })
    c.max-from.ensures.value in
    let in-order = begins w b are c.args.day c.requires.first c.requires.last from in
    omega (arith, ints, in-order.0, in-order.1, int_min_is, w.not_early, w.not_late)

pub invariant_of-result : goal.invariant_of-result
invariant_of-result c =
    let w = c.args.window.now in
    let b = c.args.bounds in
    let low = c.requires.first in
    let high = c.requires.last in
    let are = bounds-offsets (display_clock c.args.display.now) c.args.window.now c.args.bounds c.requires.bounded in
    let from = from-is w b are c.args.day low high c.from-midnight.ensures (record { sfits = c.max-from.type_inv }) c.max-from.ensures.value in
    let to = to-is w b are c.args.day low high c.from-midnight.ensures (record { sfits = c.min-to.type_inv }) c.min-to.ensures.value in
    let last = last-is w b are c.args.day low high from (record { sfits = c.later_from-end.type_inv }) (record { sfits = c.max.type_inv })
    c.max.ensures.value in
    let begins = begins w b are c.args.day low high from in
    let ends = ends w b are c.args.day low high from to c.later_from-end.ensures.to last in
    record {
      ordered = ends.0;
      not_early = omega (arith, ints, begins.0, w.not_early);
      not_late = omega (arith, ints, ends.1.0, int_min_is, w.not_late);
    }

pub returns : goal.returns
returns c =
    let w = c.args.window.now in
    let b = c.args.bounds in
    let low = c.requires.first in
    let high = c.requires.last in
    let clock = display_clock c.args.display.now in
    let are = bounds-offsets (display_clock c.args.display.now) c.args.window.now c.args.bounds c.requires.bounded in
    let from = from-is w b are c.args.day low high c.from-midnight.ensures (record { sfits = c.max-from.type_inv }) c.max-from.ensures.value in
    let to = to-is w b are c.args.day low high c.from-midnight.ensures (record { sfits = c.min-to.type_inv }) c.min-to.ensures.value in
    let last = last-is w b are c.args.day low high from (record { sfits = c.later_from-end.type_inv }) (record { sfits = c.max.type_inv })
    c.max.ensures.value in
    let begins = begins w b are c.args.day low high from in
    let ends = ends w b are c.args.day low high from to c.later_from-end.ensures.to last in
    let day : to_z w32 (of_z w32 c.args.day) ≡ c.args.day = search rules in
    record {
      from = from;
      to = ends.1.0;
      later = λ t past before.
          later-on clock w b c.requires.bounded c.args.day to (rw day at c.later_from-end.ensures.later) t
          (omega (arith, ints, begins.0, ends.0, past)) (omega (arith, ints, ends.1.1, past)) before;
      all = refl;
    }
