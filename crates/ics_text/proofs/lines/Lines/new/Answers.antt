use Rattle.std.proofs.Common.{ap}
use Rattle.ics_text.specs.Parts.{lines_left}
use Rattle.ics_text.proofs.Rising.{unfolded-stand}
use Rattle.ics_text.proofs.lines.Lines.new.Goals as goal

pub returns-clause-lines : goal.returns-clause-lines
returns-clause-lines c = ap lines_left c.in_ok-part.ensures.part

pub returns-clause-places : goal.returns-clause-places
returns-clause-places c = rw c.in_ok-part.ensures.part (unfolded-stand c.args.bytes.now)
