use Rattle.ics_rule.proofs.CalendarRounds.{calendar_rounds}
use Rattle.ics_rule.proofs.rounds.repeats_after.Goals as goal

pub returns-in-None : goal.returns-in-None
returns-in-None c = calendar_rounds c.args.search.now.parts.now c.calendar_round.result c.calendar_round.ensures.round
