use Rattle.std.proofs.Common.{◌∙◌}
use Rattle.ics_fields.specs.Sets.{contains}
use Rattle.ics_period.specs.Candidates.{lets}
use Rattle.ics_period.proofs.Counts.{count-same}
use Rattle.ics_rule.proofs.never.readings.Goals as goal

pub returns-clause-value : goal.returns-clause-value
returns-clause-value c = c.members_below.ensures.value ∙ count-same c.args.size (contains c.clock_set.result) (lets c.args.part) c.clock_set.ensures.members
