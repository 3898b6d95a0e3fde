use Rattle.std.proofs.Common.{sym, subst}
use Rattle.ics_components.specs.Fronts.{IsFrontOf}
use Rattle.ics_components.specs.PlacedLines.{placed}
use Rattle.ics_components.proofs.ReadTo.{no-front-of}
use Rattle.ics_calendar.proofs.file_parts.FileParts.read.Goals as goal

pub behind-requires-clause-front : goal.behind-requires-clause-front
behind-requires-clause-front c = subst (IsFrontOf (placed c.args.bytes.now)) (sym c.none.ensures) (no-front-of (placed c.args.bytes.now))
