use Rattle.std.proofs.Common.{rules, arith, ◌≡◌, ◌+ℤ◌, ◌≤ℤ◌, w64, to_z, of_z}
use Rattle.std.proofs.lemmas.Int.{ints, to_z-of_z}
use Rattle.ics_zone.proofs.GapLemmas.{gap_found}
use Rattle.ics_zone.proofs.gap_stretch.skipped.Goals as goal

pub returns : goal.returns
returns c = λ offset short unshown read steady.
    let jump = c.args.jump.now in
    let span = c.args.span.now in
    let from : to_z w64 (of_z w64 c.args.unshown.from) ≡ c.args.unshown.from = to_z-of_z w64 c.args.unshown.from (search rules) in
    let to : to_z w64 (of_z w64 c.min-2.result) ≡ c.min-2.result = to_z-of_z w64 c.min-2.result (search rules) in
    let before : to_z w64 (of_z w64 c.from.result) ≡ jump.before = omega (arith, ints, c.from.ensures) in
    let value : to_z w64 (of_z w64 c.from-2.result) ≡ span.offset = omega (arith, ints, c.from-2.ensures) in
    let whole : c.min-2.result ≤ℤ c.args.unshown.to = rw (to_z-of_z w64 c.args.unshown.to (search rules)) at c.min-2.ensures.self_bound in
    let least : c.min-2.result ≤ℤ c.min.result = rw (to_z-of_z w64 c.min.result (search rules)) at c.min-2.ensures.other_bound in
    let first : c.min.result ≤ℤ c.shown_near-later.result =
    rw (to_z-of_z w64 c.shown_near-later.result (search rules)) at c.min.ensures.self_bound in
    let second : c.min.result ≤ℤ c.shown_near-end.result = rw (to_z-of_z w64 c.shown_near-end.result (search rules)) at c.min.ensures.other_bound in
    let later : c.min-2.result ≤ℤ (jump.at +ℤ jump.offset) = omega (arith, ints, least, first, c.shown_near-later.ensures) in
    let end : c.min-2.result ≤ℤ (span.next +ℤ jump.before) = omega (arith, ints, least, second, c.shown_near-end.ensures) in
    gap_found short span c.args.unshown unshown read steady c.requires.begun c.requires.reaches _ from before value
    (rw to whole) (rw to later) (rw to end)
