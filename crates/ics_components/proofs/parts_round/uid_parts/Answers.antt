use Rattle.std.proofs.Common.{List, ℕ, [], drop, sym, subst, Some}
use Rattle.std.specs.Prelude.{codes}
use Rattle.ics_text.specs.ContentLines.{IsContent}
use Rattle.ics_components.proofs.Rounds.{uid_is_content}
use Rattle.ics_components.proofs.parts_round.uid_parts.Goals as goal

pub returns-in-Ok : goal.returns-in-Ok
returns-in-Ok c =
    let text : List ℕ = drop 4 c.args.line.now in
    let is : IsContent c.args.line.now (codes "UID") [] text = subst (λ l. IsContent l (codes "UID") [] text) (sym c.requires) (uid_is_content text) in
    let same = c.in-Ok.ensures.only (codes "UID") [] text is in
    λ i. Some (record { name = sym same.0 i; params = sym same.1 i; value = sym same.2 i })

pub returns-in-Err : goal.returns-in-Err
returns-in-Err c =
    let text : List ℕ = drop 4 c.args.line.now in
    let is : IsContent c.args.line.now (codes "UID") [] text = subst (λ l. IsContent l (codes "UID") [] text) (sym c.requires) (uid_is_content text) in
    absurd (c.in-Err.ensures.refused (codes "UID") [] text is)
