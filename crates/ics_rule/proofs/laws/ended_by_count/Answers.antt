use Rattle.ics_rule.proofs.EndLemmas.{kept_without_count}
use Rattle.ics_rule.proofs.laws.ended_by_count.Goals as goal

pub returns : goal.returns
returns c = kept_without_count
