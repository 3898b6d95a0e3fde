use Rattle.std.proofs.Common.{◌≡◌, Option, List, ℕ, [], IfOk, IfSome, ap, ◌∙◌, subst}
use Rattle.std.specs.Option.{option_and_then, option_copied}
use Rattle.std.proofs.lemmas.Result.{IfOk-weaker}
use Rattle.ics_components.specs.Parted.{IsSoundParted, if_parted, lines_with}
use Rattle.ics_components.specs.Inner.PartsPass.{if_sure, round_begun, round_over}
use Rattle.ics_components.specs.PlacedLines.{placed, placed_from}
use Rattle.ics_components.proofs.Placing.{parted_whole}
use Rattle.ics_components.proofs.SoundPass.{sound_parts}
use Rattle.ics_components.proofs.parts_round.parse_parts.Goals as goal

-- what is gathered is sound
pub returns-clause-sound : goal.returns-clause-sound
returns-clause-sound c =
    let file : Option (List ℕ) = option_copied c.args.file in
    let whole =
    ap (λ ls. option_and_then (if_sure file) (round_over round_begun (lines_with file (placed_from [] ls)))) c.in-Ok.ensures.lines
    ∙ parted_whole file c.args.bytes.now in
    IfOk-weaker c.sure_parts.result (λ parted. parted ≡ if_parted file (lines_with file (placed c.args.bytes.now)))
    (λ parted. IfSome parted IsSoundParted) (λ parted e. rw e (sound_parts file (lines_with file (placed c.args.bytes.now))))
    (subst (λ all. IfOk c.sure_parts.result (λ parted. parted ≡ all)) whole c.sure_parts.ensures)
