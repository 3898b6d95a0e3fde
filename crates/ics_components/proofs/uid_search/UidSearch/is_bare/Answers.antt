use Rattle.std.proofs.Common.{Some, not, sym, ap, ◌∙◌}
use Rattle.ics_components.specs.Inner.PartsPass.{here}
use Rattle.ics_components.proofs.BareLines.{by-place, no-doubt, no-nest}
use Rattle.ics_components.proofs.uid_search.UidSearch.is_bare.Goals as goal

pub returns-then-not-nests : goal.returns-then-not-nests
returns-then-not-nests c = no-nest (here 0 (Some c.args.content.now) c.args.self.now.path) (sym c.nests.ensures ∙ c.if-not-nests.true)

pub returns-then-not-leaves_doubt : goal.returns-then-not-leaves_doubt
returns-then-not-leaves_doubt c =
    no-doubt (here 0 (Some c.args.content.now) c.args.self.now.path) (sym c.nests.ensures ∙ c.if-not-nests.false)
    (sym c.leaves_doubt.ensures ∙ c.if-not-leaves_doubt.true)

pub returns : goal.returns
returns c =
    ap not c.is_in_any_event.ensures
    ∙ by-place (here 0 (Some c.args.content.now) c.args.self.now.path) (sym c.nests.ensures ∙ c.if-not-nests.false)
    (sym c.leaves_doubt.ensures ∙ c.if-not-leaves_doubt.false)
