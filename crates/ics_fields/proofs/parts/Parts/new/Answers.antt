use Rattle.ics_fields.proofs.PlaceLemmas.{every_kept}
use Rattle.ics_fields.proofs.parts.Parts.new.Goals as goal

pub invariant_of-result : goal.invariant_of-result
invariant_of-result c =
    rw (c.new.ensures, c.new-2.ensures, c.new-3.ensures, c.new-4.ensures, c.new-5.ensures, c.new-6.ensures, c.new-7.ensures, c.new-8.ensures, c.new-9.ensures)
    (every_kept c.args.frequency)
