use Rattle.std.proofs.Common.{arith}
use Rattle.std.proofs.lemmas.List.{get_or_default}
use Rattle.ics_period.proofs.ScanLemmas.{in_word}
use Rattle.ics_period.proofs.runs.Run.add_weekday.Goals as goal

pub returns-then-contains : goal.returns-then-contains
returns-then-contains c = grind (arith, in_word)

pub returns-else-contains : goal.returns-else-contains
returns-else-contains c = grind (arith, get_or_default, in_word)
