use Rattle.ics_calendar.proofs.NamesForParts.{names-count}
use Rattle.ics_calendar.proofs.laws.only_names_for_parts_count.Goals as goal

pub returns : goal.returns
returns c = names-count
