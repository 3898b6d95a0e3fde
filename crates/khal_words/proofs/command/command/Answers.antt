use Rattle.std.proofs.Common.{◌≡◌, ◌∙◌, IfOk, ap, subst}
use Rattle.clap.specs.Words.{App, app_of, with_subcommand}
use Rattle.khal_words.specs.Commands.{at_app, bare_app, list_app}
use Rattle.khal_words.proofs.command.command.Goals as goal

pub returns-clause-shape : goal.returns-clause-shape
returns-clause-shape c =
    let listed : app_of c.in_ok-command.command ≡ with_subcommand bare_app list_app.top =
    c.in_ok-command.ensures.shape list_app c.list_command.ensures.shape ∙ ap (λ (app : App). with_subcommand app list_app.top) c.in_ok-bare.ensures.shape in
    subst (λ (app : App). IfOk c.add-2.result (λ r. app_of r ≡ with_subcommand app at_app.top)) listed
    (c.add-2.ensures.shape at_app c.at_command.ensures.shape)
