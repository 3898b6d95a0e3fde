use Rattle.std.proofs.Common.{[]}
use Rattle.ics_calendar.proofs.unknown_zones.unknown_names.Goals as goal

pub returns : goal.returns
returns c = (c.in_ok-add.ensures [] c.new-unknown.ensures).once
