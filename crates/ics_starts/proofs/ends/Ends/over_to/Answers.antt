use Rattle.std.proofs.Common.{sym, ◌∙◌, arith, w64, SFits}
use Rattle.std.proofs.lemmas.Int.{ints}
use Rattle.ics_listing.proofs.Cases.{moment-back}
use Rattle.ics_starts.specs.Clocks.{clock_of}
use Rattle.ics_starts.specs.FileZones.{clocks_in}
use Rattle.ics_starts.proofs.StretchLemmas.{inside}
use Rattle.ics_starts.proofs.ends.Ends.over_to.Goals as goal

pub over_in-over-requires-clause-begins : goal.over_in-over-requires-clause-begins
over_in-over-requires-clause-begins c =
    let short = c.requires.shown.short in
    let at = inside c.args.shown _ (sym c.is_in.ensures ∙ c.if-is_in.true) in
    omega (arith, ints, at.0, short, c.requires.late, c.requires.begun, c.requires.early)

pub over_in-over-requires-clause-begins_in : goal.over_in-over-requires-clause-begins_in
over_in-over-requires-clause-begins_in c =
    let short = c.requires.shown.short in
    let at = inside c.args.shown _ (sym c.is_in.ensures ∙ c.if-is_in.true) in
    omega (arith, ints, at.1, short, c.requires.late, c.requires.begun, c.requires.early)

pub over_in-over-requires-clause-passes : goal.over_in-over-requires-clause-passes
over_in-over-requires-clause-passes c =
    let short = c.requires.shown.shown_short in
    let days = c.requires.short.short in
    let on = c.seconds_on.ensures in
    let at = inside c.stretch-ends.result _ (sym c.is_in-then-is_in.ensures ∙ c.if-is_in-2.true) in
    omega (arith, ints, at.0, on, short, days, c.requires.late, c.requires.begun, c.requires.early)

pub over_in-over-requires-clause-passes_in : goal.over_in-over-requires-clause-passes_in
over_in-over-requires-clause-passes_in c =
    let short = c.requires.shown.shown_short in
    let days = c.requires.short.short in
    let on = c.seconds_on.ensures in
    let at = inside c.stretch-ends.result _ (sym c.is_in-then-is_in.ensures ∙ c.if-is_in-2.true) in
    omega (arith, ints, at.1, on, short, days, c.requires.late, c.requires.begun, c.requires.early)

pub returns-then-over-from-clause-over : goal.returns-then-over-from-clause-over
returns-then-over-from-clause-over c = λ t late early.
    let by : SFits w64 c.args.by = c.ranges.by in
    let from : SFits w64 c.args.from = c.ranges.from in
    let back = moment-back c.over_in-over.result c.over_in-over.type_inv in
    let gone = c.over_in-over.ensures (clock_of (clocks_in c.args.zones) c.args.time) c.requires.shown c.stretch-ends.ensures.stretch t
    (omega (arith, ints, late)) (omega (arith, ints, early, back)) in
    record { begun = omega (arith, ints, gone.begun); ended = omega (arith, ints, gone.ended) }

pub returns-else-over-from-clause-over : goal.returns-else-over-from-clause-over
returns-else-over-from-clause-over c = λ t late early.
    let by : SFits w64 c.args.by = c.ranges.by in
    let from : SFits w64 c.args.from = c.ranges.from in
    let back = moment-back c.over_in-over.result c.over_in-over.type_inv in
    let gone = c.over_in-over.ensures (clock_of (clocks_in c.args.zones) c.args.time) c.requires.shown c.stretch-ends.ensures.stretch t
    (omega (arith, ints, late)) (omega (arith, ints, early, back)) in
    record { begun = omega (arith, ints, gone.begun); ended = omega (arith, ints, gone.ended) }
