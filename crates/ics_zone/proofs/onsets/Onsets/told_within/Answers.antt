use Rattle.std.proofs.Common.{rules, arith, SFits, w32, w64}
use Rattle.std.proofs.lemmas.Int.{ints, to_z-of_z}
use Rattle.ics_zone.proofs.HourLemmas.{words_tell}
use Rattle.ics_zone.proofs.onsets.Onsets.told_within.Goals as goal

pub shown_at-local-requires-clause-low : goal.shown_at-local-requires-clause-low
shown_at-local-requires-clause-low c = let first = c.in_ok-hours.ensures c.args.from (omega (arith, ints)) (omega (arith, ints)) in omega (arith, ints)

pub words-requires : goal.words-requires
words-requires c = let first = c.in_ok-hours.ensures c.args.from (omega (arith, ints)) (omega (arith, ints)) in omega (arith, ints)

pub returns : goal.returns
returns c =
    let offset : SFits w32 c.args.self.now.offset_from = search rules in
    let until : SFits w64 c.args.self.now.until = search rules in
    let count : SFits w64 c.seconds_to.result = search rules in
    let told = words_tell c.args.self.now c.in_ok-hours.hours c.args.from c.shown_at-local.result c.seconds_to.result c.words.result
    (simp (to_z-of_z, c.ranges.from) at c.in_ok-hours.ensures) (simp (to_z-of_z, offset, c.ranges.from) at c.shown_at-local.ensures)
    (simp (to_z-of_z, count) at c.words.ensures) (simp (to_z-of_z, until, c.ranges.from) at c.seconds_to.ensures.first)
    (simp (to_z-of_z, until, c.ranges.from) at c.seconds_to.ensures.all) in
    record { known = told.0; complete = told.1 }
