use Rattle.ics_text.proofs.OneReading.{same-params}
use Rattle.ics_text.proofs.laws.params_read_once.Goals as goal

pub returns : goal.returns
returns c = same-params
