use Rattle.std.proofs.Common.{◌∷◌, [], w32}
use Rattle.std.proofs.Math.Facts.{to_z-of_z}
use Rattle.ics_fields.specs.Locals.{local_seconds}
use Rattle.khal_list.specs.Text.{finish_text, start_text}
use Rattle.khal_list.proofs.AddedLemmas.{two_added}
use Rattle.khal_list.proofs.cell.add_times.Goals as goal

-- src/cell.rt:59:1
pub returns : goal.returns
returns c =
    let start = simp (to_z-of_z {w = w32} {z = c.args.day} c.ranges.day) at c.in_ok-add_start.ensures in
    let finish = simp (to_z-of_z {w = w32} {z = c.args.day} c.ranges.day) at c.in_ok-add_finish.ensures in
    let last = finish_text c.args.day (local_seconds c.args.finish) in
    two_added c.args.text.now.items (start_text c.args.day (local_seconds c.args.start)) (45 ∷ last) start
    (two_added c.add_start.new.text.items (45 ∷ []) last c.in_ok-push.ensures.items finish)
