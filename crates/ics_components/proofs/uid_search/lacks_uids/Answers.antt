use Rattle.std.proofs.Common.{◌≡◌, Bool, [], true, IfOk, sym, ◌∙◌, subst}
use Rattle.std.proofs.lemmas.Bool.{false≢true}
use Rattle.std.proofs.lemmas.Result.{IfOk-weaker}
use Rattle.ics_components.specs.Inner.BareLines.{bare_over}
use Rattle.ics_components.specs.Parted.{LacksUids}
use Rattle.ics_components.specs.PlacedLines.{placed, placed_from}
use Rattle.ics_components.proofs.BareFiles.{lacks-uids}
use Rattle.ics_components.proofs.uid_search.lacks_uids.Goals as goal

pub returns : goal.returns
returns c =
    let bytes = c.args.bytes.now in
    IfOk-weaker c.are_bare.result (λ bare. bare ≡ bare_over [] (placed bytes)) (λ lacks. lacks ≡ true → LacksUids bytes)
    (λ (bare : Bool) e t. lacks-uids bytes (λ folded. false≢true (c.in-Ok.ensures.refused.1 folded)) (sym e ∙ t))
    (subst (λ ls. IfOk c.are_bare.result (λ bare. bare ≡ bare_over [] (placed_from [] ls))) c.in-Ok.ensures.lines c.are_bare.ensures)
