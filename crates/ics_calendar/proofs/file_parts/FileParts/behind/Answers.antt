use Rattle.std.proofs.Common.{sym, ◌∙◌}
use Rattle.ics_calendar.proofs.PartsAre.{not-parted}
use Rattle.ics_calendar.proofs.file_parts.FileParts.behind.Goals as goal

pub returns-in-None : goal.returns-in-None
returns-in-None c = not-parted c.args.bytes.now (sym c.in_ok-parted.ensures.parted ∙ c.in-None.is)
