use Rattle.ics_zone.proofs.UntilLemmas.{onsets-by_until}
use Rattle.ics_zone.proofs.onset_laws.onsets_by_until.Goals as goal

pub returns : goal.returns
returns c = onsets-by_until
