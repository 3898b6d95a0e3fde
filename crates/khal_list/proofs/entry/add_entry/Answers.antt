use Rattle.std.proofs.Common.{w32}
use Rattle.std.proofs.lemmas.Int.{to_z-of_z}
use Rattle.ics_listing.specs.Entry.{entry_of}
use Rattle.khal_list.specs.Listed.{style_of}
use Rattle.khal_list.specs.Text.{heading_after, line_text}
use Rattle.khal_list.proofs.AddedLemmas.{two_added}
use Rattle.khal_list.proofs.entry.add_entry.Goals as goal

pub returns : goal.returns
returns c =
    let kept = to_z-of_z w32 c.args.day c.ranges.day in
    let style = style_of c.args.request.now in
    two_added c.args.text.now.items (heading_after style c.args.before c.args.day)
    (line_text style c.args.day (entry_of c.args.occurrence.now)) (rw kept at c.in_ok-add_heading_after.ensures) (rw kept at c.in_ok-add_line.ensures)
