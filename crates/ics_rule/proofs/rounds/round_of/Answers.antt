use Rattle.std.proofs.Common.{arith}
use Rattle.ics_rule.proofs.RoundLemmas.{round_is}
use Rattle.ics_rule.proofs.rounds.round_of.Goals as goal

pub returns-then-seconds-unit-eq0 : goal.returns-then-seconds-unit-eq0
returns-then-seconds-unit-eq0 c = (
  _,
  round_is c.seconds_of-unit.ensures.value (omega (arith, c.if-unit-eq0.false)) c.if-seconds-unit-eq0.true
      c.repeat_seconds-seconds.ensures.some c.args.search.now.interval c.repeat_seconds-seconds.ensures.repeat,
)
