use Rattle.std.proofs.Common.{◌≡◌, ◌<ℤ◌, ◌+ℤ◌, ◌-ℤ◌, pos, ◌∙◌, subst, arith, rules, w64, to_z, of_z, SFits}
use Rattle.std.specs.Int.{int_min}
use Rattle.std.proofs.lemmas.Int.{int_min_is, ints}
use Rattle.ics_fields.specs.Locals.{whole_days}
use Rattle.ics_listing.proofs.Cases.{moment-back}
use Rattle.ics_starts.proofs.OverLemmas.{over-to}
use Rattle.ics_starts.proofs.ends.over_in.Goals as goal

pub told_to-begins-requires-clause-late : goal.told_to-begins-requires-clause-late
told_to-begins-requires-clause-late c =
    let offset = c.requires.offset in
    let fits : SFits w64 c.args.shown.to = search rules in
    omega (arith, ints, c.requires.late, c.requires.begins_in, offset, fits)

pub told_to-passes-requires-clause-late : goal.told_to-passes-requires-clause-late
told_to-passes-requires-clause-late c =
    let shown = c.requires.shown_short in
    let fits : SFits w64 c.args.ends.to = search rules in
    omega (arith, ints, c.requires.late, c.requires.passes_in, shown, c.requires.short.short, c.seconds_on-on.ensures, fits)

pub returns : goal.returns
returns c = λ clock s e t late early.
    let shown = c.args.shown in
    let ends = c.args.ends in
    let duration = c.args.duration in
    let offset = c.requires.offset in
    let shift = c.requires.shown_short in
    let off = c.requires.ends_short in
    let begins = c.told_to-begins in
    let passes = c.told_to-passes in
    let ended = c.ended_to-ended in
    let first = c.min in
    let last = c.min-2 in
    let shown-fits : SFits w64 shown.to = search rules in
    let ends-fits : SFits w64 ends.to = search rules in
    let by-fits : SFits w64 c.args.by = c.ranges.by in
    let shown-to : to_z w64 (of_z w64 shown.to) ≡ shown.to = omega (arith, ints) in
    let shown-off : to_z w64 (of_z w64 shown.offset) ≡ shown.offset = omega (arith, ints, offset) in
    let ends-to : to_z w64 (of_z w64 ends.to) ≡ ends.to = omega (arith, ints) in
    let ends-off : to_z w64 (of_z w64 ends.offset) ≡ ends.offset = omega (arith, ints, off) in
    let by : to_z w64 (of_z w64 c.args.by) ≡ c.args.by = omega (arith, ints) in
    let on-back = moment-back c.seconds_on-on.result c.seconds_on-on.type_inv in
    let on : to_z w64 (of_z w64 c.seconds_on-on.result) ≡ shown.shown +ℤ whole_days duration.days =
    omega (arith, ints, on-back, c.seconds_on-on.ensures, shift) in
    let begins-is : begins.result ≡ int_min (shown.to -ℤ shown.offset) c.args.by =
    begins.ensures ∙ (λ i. int_min (shown-to i -ℤ shown-off i) (by i)) in
    let passes-is : passes.result ≡ int_min (ends.to -ℤ (shown.shown +ℤ whole_days duration.days)) c.args.by =
    passes.ensures ∙ (λ i. int_min (ends-to i -ℤ on i) (by i)) in
    let ended-is : ended.result ≡ (((c.args.by -ℤ (shown.shown +ℤ whole_days duration.days)) +ℤ ends.offset) -ℤ pos duration.seconds) +ℤ pos 1 =
    ended.ensures ∙ (λ i. (((by i -ℤ on i) +ℤ ends-off i) -ℤ pos duration.seconds) +ℤ pos 1) in
    let back = moment-back last.result last.type_inv in
    let first-back = moment-back first.result first.type_inv in
    let begins-back = moment-back begins.result begins.type_inv in
    let passes-back = moment-back passes.result passes.type_inv in
    let ended-back = moment-back ended.result ended.type_inv in
    let before-ended : t <ℤ ended.result = omega (arith, ints, early, back, ended-back, last.ensures.value, int_min_is) in
    let before-first : t <ℤ first.result = omega (arith, ints, early, back, first-back, last.ensures.value, int_min_is) in
    let before-begins : t <ℤ begins.result = omega (arith, ints, before-first, begins-back, first.ensures.value, int_min_is) in
    let before-passes : t <ℤ passes.result = omega (arith, ints, before-first, passes-back, first.ensures.value, int_min_is) in
    over-to clock shown ends s e duration c.args.by c.args.from t c.requires.begins c.requires.passes late (subst (λ x. t <ℤ x) begins-is before-begins)
    (subst (λ x. t <ℤ x) passes-is before-passes) (subst (λ x. t <ℤ x) ended-is before-ended)
