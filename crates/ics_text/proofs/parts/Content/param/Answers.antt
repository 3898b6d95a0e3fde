use Rattle.std.proofs.Common.{ap, ◌∙◌}
use Rattle.ics_text.specs.ContentLines.{Parts, param_of}
use Rattle.ics_text.proofs.Parameters.{param_of-first}
use Rattle.ics_text.proofs.parts.Content.param.Goals as goal

pub returns-clause-first : goal.returns-clause-first
returns-clause-first c =
    let name = c.args.name.now in
    λ ps h. c.param_of.ensures ∙ ap (λ (p : Parts). param_of name p.params) c.self.view_is ∙ param_of-first name c.args.self.now.params ps h
