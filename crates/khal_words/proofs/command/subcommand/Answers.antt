use Rattle.std.proofs.Common.{◌≡◌, false, List, [], ◌∷◌, map, refl, sym, ap, ◌∙◌, rules}
use Rattle.std.specs.List.{AllByRecursion}
use Rattle.std.proofs.lemmas.Result.{IfOk-weaker}
use Rattle.clap.specs.Words.{App, AddsArg, AddsInTurn, app_of, new_app, rule_of}
use Rattle.clap.specs.declared.builder.arg.Arg.{Arg}
use Rattle.clap.specs.declared.builder.command.Command.{Command}
use Rattle.clap.specs.declared.builder.command.Command.TheViews.{out-Command}
use Rattle.khal_words.specs.Commands.{with_rules}
use Rattle.khal_words.proofs.command.subcommand.Goals as goal

abbrev AreLocal : List Arg → Type 0
AreLocal args = AllByRecursion (λ arg. arg.global ≡ false) args

-- what a command has after several arguments were added
shape_after : (args : List Arg) (old new : Command) → AddsInTurn AddsArg old args new → AreLocal args
    → app_of new ≡ with_rules (app_of old) (map rule_of args)
shape_after [] old new same here = ap app_of (sym same)
shape_after (arg ∷ args) old new adds here =
    shape_after args adds.0 new adds.2 here.1 ∙ ap (λ (app : App). with_rules app (map rule_of args)) (adds.1.shape here.0)

local_after : (args : List Arg) (old new : Command) → AddsInTurn AddsArg old args new → AreLocal args → (out-Command old).has_globals ≡ false
    → (out-Command new).has_globals ≡ false
local_after [] old new same here local = rw same at local
local_after (arg ∷ args) old new adds here local = local_after args adds.0 new adds.2 here.1 (adds.1.globals ∙ rw (local, here.0) refl)

pub returns-clause-shape : goal.returns-clause-shape
returns-clause-shape c =
    let was : app_of c.after_help.result ≡ new_app c.args.name.now = search rules in
    IfOk-weaker c.args-2.result _ _ (λ new adds. shape_after c.args.args.items c.after_help.result new adds c.requires.local
    ∙ ap (λ (app : App). with_rules app (map rule_of c.args.args.items)) was) c.args-2.ensures

pub returns-clause-local : goal.returns-clause-local
returns-clause-local c =
    let was : (out-Command c.after_help.result).has_globals ≡ false = search rules in
    IfOk-weaker c.args-2.result _ _ (λ new adds. local_after c.args.args.items c.after_help.result new adds c.requires.local was) c.args-2.ensures
