use Rattle.std.proofs.Common.{◌≡◌, ◌+ℤ◌, ◌-ℤ◌, sym, ◌∙◌, arith, w64, to_z, of_z, SFits}
use Rattle.std.proofs.lemmas.Int.{ints}
use Rattle.ics_fields.specs.Locals.{whole_days}
use Rattle.ics_starts.specs.Clocks.{clock_of}
use Rattle.ics_starts.specs.FileZones.{clocks_in}
use Rattle.ics_starts.proofs.OverLemmas.{later-at}
use Rattle.ics_starts.proofs.StretchLemmas.{inside}
use Rattle.ics_starts.proofs.told_ends.ToldEnds.later_by.Goals as goal

pub overflow_add-result : goal.overflow_add-result
overflow_add-result c =
    let fits : SFits w64 c.args.start = c.ranges.start in
    let short = c.requires.shown.shown_short in
    let ends = c.stretch-ends.ensures.stretch.short in
    let days = c.requires.short.short in
    let on = c.seconds_on.ensures in
    let local : to_z w64 (of_z w64 (to_z w64 (of_z w64 c.args.start) +ℤ to_z w64 (of_z w64 c.seconds_on.result)))
    ≡ c.args.start +ℤ (c.args.shown.shown +ℤ whole_days c.args.duration.days) = omega (arith, ints, on, short, days, c.requires.late, c.requires.early) in
    let back : to_z w64 (of_z w64 (to_z w64 (of_z w64 (to_z w64 (of_z w64 c.args.start) +ℤ to_z w64 (of_z w64 c.seconds_on.result)))
    -ℤ to_z w64 (of_z w64 c.stretch-ends.result.offset)))
    ≡ (c.args.start +ℤ (c.args.shown.shown +ℤ whole_days c.args.duration.days)) -ℤ c.stretch-ends.result.offset =
    omega (arith, ints, local, short, ends, days, c.requires.late, c.requires.early) in
    omega (arith, ints, back, short, ends, days, c.requires.late, c.requires.early)

pub returns-then-is_in-2-clause-value : goal.returns-then-is_in-2-clause-value
returns-then-is_in-2-clause-value c =
    let fits : SFits w64 c.args.start = c.ranges.start in
    let begins = c.requires.shown.short in
    let short = c.requires.shown.shown_short in
    let ends = c.stretch-ends.ensures.stretch.short in
    let days = c.requires.short.short in
    let on = c.seconds_on.ensures in
    let first = inside c.args.shown _ (sym c.is_in.ensures ∙ c.if-is_in.true) in
    let last = inside c.stretch-ends.result _ (sym c.is_in-then-is_in.ensures ∙ c.if-is_in-2.true) in
    let told = later-at (clock_of (clocks_in c.args.zones) c.args.time) c.args.shown c.stretch-ends.result c.requires.shown c.stretch-ends.ensures.stretch
    c.args.duration c.args.start
    (omega (arith, ints, first.0, begins, c.requires.late, c.requires.early))
    (omega (arith, ints, first.1, begins, c.requires.late, c.requires.early))
    (omega (arith, ints, last.0, on, short, days, c.requires.late, c.requires.early))
    (omega (arith, ints, last.1, on, short, days, c.requires.late, c.requires.early)) in
    let local : to_z w64 (of_z w64 (to_z w64 (of_z w64 c.args.start) +ℤ to_z w64 (of_z w64 c.seconds_on.result)))
    ≡ c.args.start +ℤ (c.args.shown.shown +ℤ whole_days c.args.duration.days) = omega (arith, ints, on, short, days, c.requires.late, c.requires.early) in
    let back : to_z w64 (of_z w64 (to_z w64 (of_z w64 (to_z w64 (of_z w64 c.args.start) +ℤ to_z w64 (of_z w64 c.seconds_on.result)))
    -ℤ to_z w64 (of_z w64 c.stretch-ends.result.offset)))
    ≡ (c.args.start +ℤ (c.args.shown.shown +ℤ whole_days c.args.duration.days)) -ℤ c.stretch-ends.result.offset =
    omega (arith, ints, local, short, ends, days, c.requires.late, c.requires.early) in
    omega (arith, ints, told, back, short, ends, days, c.requires.late, c.requires.early)

pub returns-then-is_in-2-clause-early : goal.returns-then-is_in-2-clause-early
returns-then-is_in-2-clause-early c =
    let fits : SFits w64 c.args.start = c.ranges.start in
    let short = c.requires.shown.shown_short in
    let ends = c.stretch-ends.ensures.stretch.short in
    let days = c.requires.short.short in
    let on = c.seconds_on.ensures in
    let local : to_z w64 (of_z w64 (to_z w64 (of_z w64 c.args.start) +ℤ to_z w64 (of_z w64 c.seconds_on.result)))
    ≡ c.args.start +ℤ (c.args.shown.shown +ℤ whole_days c.args.duration.days) = omega (arith, ints, on, short, days, c.requires.late, c.requires.early) in
    let back : to_z w64 (of_z w64 (to_z w64 (of_z w64 (to_z w64 (of_z w64 c.args.start) +ℤ to_z w64 (of_z w64 c.seconds_on.result)))
    -ℤ to_z w64 (of_z w64 c.stretch-ends.result.offset)))
    ≡ (c.args.start +ℤ (c.args.shown.shown +ℤ whole_days c.args.duration.days)) -ℤ c.stretch-ends.result.offset =
    omega (arith, ints, local, short, ends, days, c.requires.late, c.requires.early) in
    omega (arith, ints, back, short, ends, days, c.requires.late, c.requires.early)
