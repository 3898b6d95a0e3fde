use Rattle.std.proofs.Common.{◌*◌}
use Rattle.ics_rule.proofs.CalendarRounds.{calendar_is}
use Rattle.ics_rule.proofs.EvenLemmas.{even_of_rounds}
use Rattle.ics_rule.proofs.rounds.round_within.Goals as goal

pub returns-in-None : goal.returns-in-None
returns-in-None c = even_of_rounds c.args.search.now.parts.now c.calendar_round.result
    (λ k t. (t.cycles * 12_622_780_800, calendar_is c.args.search.now.parts.now k t)) c.calendar_round.ensures.round
