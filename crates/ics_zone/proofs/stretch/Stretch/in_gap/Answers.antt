use Rattle.std.proofs.Common.{◌≡◌, ◌∙◌, ◌+ℤ◌, ◌-ℤ◌, ◌≤ℤ◌, arith, rules, of_z, to_z, w32, w64}
use Rattle.std.proofs.lemmas.Int.{ints, to_z-of_z}
use Rattle.jiff_tz.specs.TzifText.{civil_end, transition_text}
use Rattle.ics_zone.proofs.FileStretchLemmas.{gap_stretch}
use Rattle.ics_zone.proofs.stretch.Stretch.in_gap.Goals as goal

pub returns-then-shows : goal.returns-then-shows
returns-then-shows c = λ table count last h.
    let row = c.args.row in
    let after = c.args.self in
    let before : to_z w64 (of_z w64 c.from.result) ≡ row.before.seconds =
    to_z-of_z w64 c.from.result (search rules) ∙ c.from.ensures ∙ to_z-of_z w32 row.before.seconds (search rules) in
    let from : to_z w64 (of_z w64 c.left_at.result) ≡ row.second +ℤ row.before.seconds =
    to_z-of_z w64 c.left_at.result (search rules) ∙ c.left_at.ensures in
    let to : to_z w64 (of_z w64 c.civil_end.result) ≡ civil_end (transition_text row) =
    to_z-of_z w64 c.civil_end.result (search rules) ∙ c.civil_end.ensures in
    let second : to_z w64 (of_z w64 row.second) ≡ row.second = to_z-of_z w64 row.second (search rules) in
    let end : to_z w64 (of_z w64 c.skipped_to.result) ≡ civil_end (transition_text row) -ℤ row.before.seconds =
    to_z-of_z w64 c.skipped_to.result (search rules) ∙ c.skipped_to.ensures.is in
    let on : after.from ≤ℤ (to_z w64 (of_z w64 row.second) +ℤ after.offset) = c.shows.ensures.on c.if-shows.true in
    let until : (to_z w64 (of_z w64 c.skipped_to.result) +ℤ after.offset) ≤ℤ after.to = c.shows.ensures.end c.if-shows.true in
    gap_stretch table count (transition_text row) last h (record {
      from = omega (arith, ints, from);
      to = omega (arith, ints, to);
      offset = before;
      shown = to_z-of_z w64 after.shown (search rules);
      on = omega (arith, ints, from, before, second, on);
      end = omega (arith, ints, to, before, end, until);
      short = rw before row.before.in_range;
    })

pub returns-else-shows : goal.returns-else-shows
returns-else-shows c = λ table count last h. c.none.ensures _ _
