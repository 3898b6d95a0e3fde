use Rattle.std.proofs.Common.{◌≡◌, None, [], IfOk, IfSome, ap, ◌∙◌, subst}
use Rattle.std.specs.Option.{option_and_then}
use Rattle.std.proofs.lemmas.Bool.{false≢true}
use Rattle.std.proofs.lemmas.Result.{IfOk-weaker}
use Rattle.ics_components.specs.Inner.FrontedRound.{fronted_over}
use Rattle.ics_components.specs.Inner.PartsPass.{if_sure, round_begun}
use Rattle.ics_components.specs.Parted.{IsSoundParted, if_parted}
use Rattle.ics_components.specs.PlacedLines.{placed, placed_from}
use Rattle.ics_components.proofs.FrontSteps.{fronted_parted, plain-parted}
use Rattle.ics_components.proofs.SoundPass.{sound_parts}
use Rattle.ics_components.proofs.fronted_round.parse_parts_behind.Goals as goal

pub returns-clause-parted : goal.returns-clause-parted
returns-clause-parted c =
    let whole =
    ap (λ ls. option_and_then (if_sure None) (fronted_over (record { round = round_begun; front = c.args.front }) (placed_from [] ls))) c.in-Ok.ensures.lines
    ∙ fronted_parted c.args.bytes.now c.args.front c.requires
    ∙ plain-parted c.args.bytes.now (λ folded. false≢true (c.in-Ok.ensures.refused.1 folded)) in
    subst (λ all. IfOk c.sure_behind.result (λ parted. parted ≡ all)) whole c.sure_behind.ensures

-- what is gathered is sound
pub returns-clause-sound : goal.returns-clause-sound
returns-clause-sound c =
    let whole =
    ap (λ ls. option_and_then (if_sure None) (fronted_over (record { round = round_begun; front = c.args.front }) (placed_from [] ls))) c.in-Ok.ensures.lines
    ∙ fronted_parted c.args.bytes.now c.args.front c.requires in
    IfOk-weaker c.sure_behind.result (λ parted. parted ≡ if_parted None (placed c.args.bytes.now)) (λ parted. IfSome parted IsSoundParted)
    (λ parted e. rw e (sound_parts None (placed c.args.bytes.now)))
    (subst (λ all. IfOk c.sure_behind.result (λ parted. parted ≡ all)) whole c.sure_behind.ensures)
