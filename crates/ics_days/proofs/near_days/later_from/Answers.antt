use Rattle.std.proofs.Common.{rules, ◌≡◌, ⊎_elim, ◌+ℤ◌, ◌-ℤ◌, ◌*ℤ◌, ◌<ℤ◌, ◌≤ℤ◌, ℤ, arith, int_lt, pos, to_z, of_z, w32, w64}
use Rattle.std.proofs.lemmas.Bool.{and_parts}
use Rattle.std.proofs.lemmas.Int.{int_min_is, ints, to_z-of_z}
use Rattle.ics_fields.specs.Locals.{midnight, whole_days, year_seconds}
use Rattle.ics_listing.specs.WindowBounds.{occurrence_first, window_last}
use Rattle.ics_zone.proofs.Cases.{int_lt_true, less_or_not_z}
use Rattle.ics_zone.specs.Seconds.{IsDay, IsNear}
use Rattle.ics_starts.specs.Clocks.{display_clock}
use Rattle.ics_days.proofs.NearDayLemmas.{later-day}
use Rattle.ics_days.proofs.near_days.later_from.Goals as goal

-- the midnight that ends a day fits
midnight-is : (day : ℤ) {read : ℤ} → IsDay day → read ≡ to_z w32 (of_z w32 day)
    → to_z w64 (of_z w64 (to_z w64 (of_z w64 (to_z w64 (of_z w64 read) +ℤ pos 1)) *ℤ pos 86_400)) ≡ midnight (day +ℤ pos 1)
midnight-is day within e = omega (arith, ints, e, within.0, within.1)

-- so does the local that an offset shows at an instant of a window
end-is : (to offset : ℤ) → occurrence_first ≤ℤ to → to ≤ℤ window_last → IsNear offset
    → to_z w64 (of_z w64 (to_z w64 (of_z w64 to) +ℤ to_z w64 (of_z w64 offset))) ≡ to +ℤ offset
end-is to offset early late short = omega (arith, ints, early, late, short.0, short.1)

before-is : (to offset edge : ℤ) → to ≤ℤ window_last → IsNear offset → edge <ℤ (to +ℤ offset)
    → edge ≤ℤ (year_seconds 9_951 +ℤ whole_days 2 -ℤ pos 1)
before-is to offset edge late short less = omega (arith, ints, late, short.1, less)

pub stretch-requires : goal.stretch-requires
stretch-requires c =
    let local = to_z w64 (of_z w64 (to_z w64 (of_z w64 (to_z w64 (of_z w64 c.from.result) +ℤ pos 1)) *ℤ pos 86_400)) in
    let edge = to_z w64 (of_z w64 c.stretch-stretch.result.to) in
    let end = to_z w64 (of_z w64 (to_z w64 (of_z w64 c.args.to) +ℤ to_z w64 (of_z w64 c.stretch-stretch.result.offset))) in
    let both = and_parts (int_lt local edge) (int_lt edge end) c.if-local-stretch.true in
    let low = rw (midnight-is c.args.day c.requires.day c.from.ensures) at (int_lt_true local edge both.0) in
    let near = c.stretch-stretch.ensures.short in
    let short : IsNear c.stretch-stretch.result.offset = (omega (arith, ints, near.0), omega (arith, ints, near.1)) in
    let high = rw (end-is c.args.to c.stretch-stretch.result.offset c.requires.early c.requires.late short) at (int_lt_true edge end both.1) in
    (omega (arith, ints, low, c.requires.day), before-is c.args.to c.stretch-stretch.result.offset edge c.requires.late short high)

pub shown_from-requires-clause-to : goal.shown_from-requires-clause-to
shown_from-requires-clause-to c =
    let low = rw (midnight-is c.args.day c.requires.day c.from.ensures) at c.shown_from-behind.ensures.low in
    let to = c.shown_from-behind.ensures.to in
    let short = c.stretch.ensures.shown_short in
    rw (to_z-of_z w64 c.shown_from-behind.result (record { sfits = c.shown_from-behind.type_inv }))
    (omega (arith, ints, low, int_min_is, short, c.requires.day, c.requires.early), omega (arith, ints, to, c.requires.late))

pub returns-then-local-stretch-clause-later : goal.returns-then-local-stretch-clause-later
returns-then-local-stretch-clause-later c = λ t from before.
    let clock = display_clock c.args.display.now in
    let first : to_z w64 (of_z w64 c.shown_from.result) ≡ c.shown_from.result = to_z-of_z w64 c.shown_from.result (record { sfits = c.shown_from.type_inv }) in
    let behind : to_z w64 (of_z w64 c.shown_from-behind.result) ≡ c.shown_from-behind.result =
    to_z-of_z w64 c.shown_from-behind.result (record { sfits = c.shown_from-behind.type_inv }) in
    let to : to_z w64 (of_z w64 c.args.to) ≡ c.args.to = search rules in
    later-day clock c.args.day t (⊎_elim
    (λ less. rw (midnight-is c.args.day c.requires.day c.from.ensures) at
    (c.shown_from.ensures.later clock c.stretch-stretch.ensures t (omega (arith, ints, from, first)) (omega (arith, ints, less, behind))))
    (λ past. rw (midnight-is c.args.day c.requires.day c.from.ensures) at
    (c.shown_from-behind.ensures.later clock c.stretch.ensures t past (omega (arith, ints, before, to))))
    (less_or_not_z t c.shown_from-behind.result))

pub returns-clause-later : goal.returns-clause-later
returns-clause-later c = λ t from before.
    let clock = display_clock c.args.display.now in
    let first : to_z w64 (of_z w64 c.shown_from-2.result) ≡ c.shown_from-2.result =
    to_z-of_z w64 c.shown_from-2.result (record { sfits = c.shown_from-2.type_inv }) in
    let to : to_z w64 (of_z w64 c.args.to) ≡ c.args.to = search rules in
    later-day clock c.args.day t (rw (midnight-is c.args.day c.requires.day c.from.ensures) at
    (c.shown_from-2.ensures.later clock c.stretch-stretch.ensures t (omega (arith, ints, from, first)) (omega (arith, ints, before, to))))
