use Rattle.ics_text.proofs.Parameters.{param_of-first}
use Rattle.ics_text.proofs.laws.param_by_grammar.Goals as goal

pub returns : goal.returns
returns c = param_of-first
