use Rattle.ics_text.proofs.Parting.{content-grammar}
use Rattle.ics_text.proofs.laws.content_by_grammar.Goals as goal

pub returns : goal.returns
returns c = content-grammar
