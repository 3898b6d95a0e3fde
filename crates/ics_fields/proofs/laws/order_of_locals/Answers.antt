use Rattle.std.proofs.Common.{◌∙◌}
use Rattle.ics_fields.proofs.LocalLemmas.{by_time}
use Rattle.ics_fields.proofs.laws.order_of_locals.Goals as goal

pub returns-clause-time : goal.returns-clause-time
returns-clause-time c = c.cmp.ensures ∙ by_time c.args.a c.args.b
