use Rattle.ics_series.proofs.VersionLemmas.{one-version}
use Rattle.ics_series.proofs.laws.one_version.Goals as goal

pub returns : goal.returns
returns c = one-version
