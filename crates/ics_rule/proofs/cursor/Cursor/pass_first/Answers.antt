use Rattle.ics_fields.specs.Sets.{IsLeastFrom}
use Rattle.ics_rule.proofs.PassedLemmas.{passed_through}
use Rattle.ics_rule.proofs.cursor.Cursor.pass_first.Goals as goal

pub turn_through-requires-clause-step : goal.turn_through-requires-clause-step
turn_through-requires-clause-step c = rw c.args.search.now.of_start at (IsLeastFrom.passes c.next_step-end.ensures)

pub returns : goal.returns
returns c = passed_through c.turn_through.result c.turn_through.ensures.counted
