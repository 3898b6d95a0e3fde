use Rattle.ics_rule.proofs.UntilLemmas.{kept_by_until, kept_by_instants}
use Rattle.ics_rule.proofs.laws.bounded_by_until.Goals as goal

pub returns : goal.returns
returns c = record { kept = kept_by_until; instants = kept_by_instants }
