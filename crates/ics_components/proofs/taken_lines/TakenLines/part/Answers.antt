use Rattle.std.proofs.lemmas.Bool.{false≢true}
use Rattle.ics_components.proofs.FileParts.{begins-start}
use Rattle.ics_components.proofs.taken_lines.TakenLines.part.Goals as goal

pub returns-in-Ok-clause-part : goal.returns-in-Ok-clause-part
returns-in-Ok-clause-part c =
    begins-start c.args.self.now c.args.bytes.now c.in-Ok.part c.in-Start.is c.in-Ok.ensures.part
    (λ folded. false≢true (c.in-Ok.ensures.refused.1 folded))
