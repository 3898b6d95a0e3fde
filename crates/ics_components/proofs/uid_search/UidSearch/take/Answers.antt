use Rattle.std.proofs.Common.{Some, sym, ◌∙◌}
use Rattle.ics_components.specs.Inner.PartsPass.{here}
use Rattle.ics_components.proofs.BareLines.{bare_steps, doubt_stops}
use Rattle.ics_components.proofs.uid_search.UidSearch.take.Goals as goal

pub returns-then-not-is_bare : goal.returns-then-not-is_bare
returns-then-not-is_bare c =
    let path = c.args.self.now.path in
    doubt_stops (here c.args.number (Some c.args.content.now) path) path path (sym c.is_bare.ensures ∙ c.if-not-is_bare.true)

pub returns : goal.returns
returns c =
    let path = c.args.self.now.path in
    bare_steps (here c.args.number (Some c.args.content.now) path) path c.pass.new.self (sym c.is_bare.ensures ∙ c.if-not-is_bare.false) c.in_ok-pass.ensures
