use Rattle.std.proofs.Common.{arith}
use Rattle.std.proofs.lemmas.Bool.{and_parts}
use Rattle.ics_rule.proofs.FlatLemmas.{none_from}
use Rattle.ics_rule.proofs.rounds.is_flat.Goals as goal

pub returns : goal.returns
returns c = grind (arith, and_parts, none_from)
