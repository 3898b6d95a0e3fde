use Rattle.std.proofs.Common.{◌≡◌, None, sym, ap, ◌∙◌}
use Rattle.std.specs.Result.{result_ok}
use Rattle.ics_text.specs.ContentLines.{content_of}
use Rattle.ics_components.proofs.uid_search.UidSearch.take_line.Goals as goal

-- a line that is no content line
pub returns-in_default : goal.returns-in_default
returns-in_default c =
    let none : content_of c.args.line.now ≡ None = sym c.content.ensures.computes ∙ ap result_ok c.in_default.is in rw none c.take_bad.ensures
