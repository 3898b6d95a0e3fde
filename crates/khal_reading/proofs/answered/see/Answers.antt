use Rattle.std.proofs.Common.{◌∙◌}
use Rattle.ics_calendar.proofs.FilesGiven.{seen-more}
use Rattle.khal_reading.proofs.answered.see.Goals as goal

pub returns : goal.returns
returns c = λ other.
    c.in_ok-insert.ensures.updates.0 other ∙ seen-more c.in_ok-copied.field-0 c.args.name.now other _ c.in_ok-copied.ensures
