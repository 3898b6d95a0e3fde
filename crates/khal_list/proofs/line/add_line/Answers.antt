use Rattle.std.proofs.lemmas.Grind.{common_steps}
use Rattle.std.proofs.Common.{w32, arith}
use Rattle.std.proofs.lemmas.Int.{to_z-of_z, ints}
use Rattle.ics_listing.specs.Entry.{entry_of}
use Rattle.khal_list.specs.Listed.{style_of}
use Rattle.khal_list.specs.Text.{entry_field_text}
use Rattle.khal_list.proofs.AddedLemmas.{two_added, whole_added}
use Rattle.khal_list.proofs.line.add_line.Goals as goal

pub returns : goal.returns
returns c =
    two_added _ _ _ (whole_added (entry_field_text (style_of c.args.request.now) c.args.day (entry_of c.args.occurrence.now))
    c.deref-piece-items.result.now c.loop-piece.piece-index _ c.loop-piece-test.false
    (rw (to_z-of_z w32 c.args.day c.ranges.day) at c.loop-piece.invariant)) c.in_ok-push.ensures.items

pub loop-piece-preserved : goal.loop-piece-preserved
loop-piece-preserved c = grind (ints, arith, common_steps)
