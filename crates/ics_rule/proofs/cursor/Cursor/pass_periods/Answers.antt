use Rattle.ics_rule.proofs.PassedLemmas.{passed_twice}
use Rattle.ics_rule.proofs.cursor.Cursor.pass_periods.Goals as goal

pub returns-then-repeats_soon : goal.returns-then-repeats_soon
returns-then-repeats_soon c = passed_twice c.pass_first.ensures c.pass_rounds.ensures
