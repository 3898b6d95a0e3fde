use Rattle.std.proofs.Common.{arith}
use Rattle.std.proofs.lemmas.Grind.{common_steps}
use Rattle.ics_components.proofs.Judgements.{event_line}
use Rattle.ics_components.proofs.event_fields.EventFields.property.Goals as goal

pub returns-in_err-property : goal.returns-in_err-property
returns-in_err-property c = let judged = event_line c.args.name c.args.content.now c.args.self.now c.requires in grind (arith, common_steps, judged)

pub returns : goal.returns
returns c = let judged = event_line c.args.name c.args.content.now c.args.self.now c.requires in grind (arith, common_steps, judged)
