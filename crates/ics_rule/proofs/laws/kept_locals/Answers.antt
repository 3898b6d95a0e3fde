use Rattle.ics_rule.proofs.NextLemmas.{kept_start, kept_earlier}
use Rattle.ics_rule.proofs.LawLemmas.{kept_in_rule, kept_both}
use Rattle.ics_rule.proofs.laws.kept_locals.Goals as goal

pub returns : goal.returns
returns c = record { start = kept_start; least = kept_earlier; members = kept_in_rule; count = λ r c n e some. (kept_both r c e some n).0 }
