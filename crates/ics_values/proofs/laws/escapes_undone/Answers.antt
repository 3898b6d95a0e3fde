use Rattle.ics_values.proofs.TextLemmas.{plain_text-escaped}
use Rattle.ics_values.proofs.laws.escapes_undone.Goals as goal

pub returns : goal.returns
returns c = plain_text-escaped
