use Rattle.ics_zone.proofs.RepeatLemmas.{calendar_rounds_are}
use Rattle.ics_zone.proofs.rounds.seconds_of.Goals as goal

pub returns-in-None : goal.returns-in-None
returns-in-None c = calendar_rounds_are c.args.parts.now c.calendar_round.result c.calendar_round.ensures
