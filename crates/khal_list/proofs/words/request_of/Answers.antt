use Rattle.std.proofs.Common.{◌≡◌, None, rules, sym, ◌∙◌, ap, FitsSigned, w64}
use Rattle.std.proofs.lemmas.Int.{to_z-of_z}
use Rattle.ics_zone.specs.ZoneSaid.{display_said}
use Rattle.clap.specs.Words.{subcommand_rows_of}
use Rattle.khal_list.proofs.RequestLemmas.{good_token, has_window, no_format, no_token}
use Rattle.khal_words.specs.SpanTexts.{span_by}
use Rattle.khal_list.specs.Inner.WindowEnds.{ends_by}
use Rattle.khal_list.specs.Windows.{ends_of}
use Rattle.khal_list.proofs.words.request_of.Goals as goal

pub returns-in_default : goal.returns-in_default
returns-in_default c =
    let zone = display_said c.args.zone.now in
    let fits : FitsSigned w64 c.args.now = c.ranges.now in
    let ends : ends_by c.window_of.result ≡ ends_of zone c.args.now (span_by c.of.result) = simp to_z-of_z at c.window_of.ensures.ends in
    let none : None ≡ ends_of zone c.args.now (span_by c.of.result) = ap ends_by (sym c.in_default.is) ∙ ends in
    ap (ends_of zone c.args.now) (sym c.of.ensures) ∙ sym none

pub returns-in_err-after : goal.returns-in_err-after
returns-in_err-after c =
    no_token (subcommand_rows_of c.args.found.now) (display_said c.args.zone.now) c.args.now c.from_residual-in_err-after.result c.in_err-after.field-0.0
    c.from_residual-in_err-after.ensures.1
    (has_window (subcommand_rows_of c.args.found.now) (display_said c.args.zone.now) c.args.now c.in-Some.window (search rules)) c.in_err-after.ensures.bad

pub returns-in_err-formats : goal.returns-in_err-formats
returns-in_err-formats c =
    no_format (subcommand_rows_of c.args.found.now) (display_said c.args.zone.now) c.args.now c.from_residual-in_err-formats.result c.in_err-formats.field-0.0
    c.from_residual-in_err-formats.ensures.1
    (has_window (subcommand_rows_of c.args.found.now) (display_said c.args.zone.now) c.args.now c.in-Some.window (search rules))
    (good_token (display_said c.args.zone.now) c.in-Some.window c.in_ok-after.after.once c.in_ok-after.after.every_day c.in_ok-after.ensures.ok)
    c.in_err-formats.ensures.bad

pub returns : goal.returns
returns c = rw c.in_ok-clone.ensures.same (search rules)
