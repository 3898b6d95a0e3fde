use Rattle.ics_rule.proofs.FirstLemmas.{kept_first, kept_number}
use Rattle.ics_rule.proofs.laws.first_of_count.Goals as goal

pub returns : goal.returns
returns c = record { kept = kept_first; number = kept_number }
