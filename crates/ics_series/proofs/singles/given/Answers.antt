use Rattle.std.proofs.Common.{◌∙◌, None, Some, map, ap, sym, option_map}
use Rattle.ics_file.specs.File.{said_by}
use Rattle.ics_starts.specs.Clocks.{display_clock}
use Rattle.ics_listing.specs.Entry.{key_rank}
use Rattle.ics_series.specs.Singles.{is_to_come}
use Rattle.ics_starts.specs.SingleEvents.{single_entry}
use Rattle.ics_series.specs.Versions.{seen}
use Rattle.ics_series.proofs.SinglesLemmas.{gives-begun, gives-other}
use Rattle.ics_series.proofs.singles.given.Goals as goal

pub returns-then-not-is_single : goal.returns-then-not-is_single
returns-then-not-is_single c =
    gives-other (map said_by c.args.files.now) (display_clock c.args.display.now) c.args.window.now (map seen c.args.overrides.now)
    (option_map (λ key. key_rank key.now) c.args.after) (seen c.args.version.now) c.event-event.result.now c.event-event.ensures.event
    (sym c.is_single.ensures ∙ c.if-not-is_single.true)

pub returns-in_err-single : goal.returns-in_err-single
returns-in_err-single c =
    ap (option_map single_entry) c.from_residual.ensures
    ∙ gives-begun (map said_by c.args.files.now) (display_clock c.args.display.now) c.args.window.now (map seen c.args.overrides.now)
    (option_map (λ key. key_rank key.now) c.args.after) (seen c.args.version.now) c.event-event.result.now c.event-event.ensures.event None
    (sym c.is_single.ensures ∙ c.if-not-is_single.false) c.zones-zones.ensures.clocks c.in_err-single.ensures

pub returns-then-is_to_come : goal.returns-then-is_to_come
returns-then-is_to_come c =
    let comes = ap (is_to_come c.args.window.now (map seen c.args.overrides.now) (option_map (λ key. key_rank key.now) c.args.after))
    (sym c.occurrence.ensures) ∙ (sym c.is_to_come.ensures ∙ c.if-is_to_come.true) in
    rw comes at
    (gives-begun (map said_by c.args.files.now) (display_clock c.args.display.now) c.args.window.now (map seen c.args.overrides.now)
    (option_map (λ key. key_rank key.now) c.args.after) (seen c.args.version.now) c.event-event.result.now c.event-event.ensures.event
    (Some (single_entry c.in_ok-single.single)) (sym c.is_single.ensures ∙ c.if-not-is_single.false) c.zones-zones.ensures.clocks c.in_ok-single.ensures)

pub returns-else-is_to_come : goal.returns-else-is_to_come
returns-else-is_to_come c =
    let comes = ap (is_to_come c.args.window.now (map seen c.args.overrides.now) (option_map (λ key. key_rank key.now) c.args.after))
    (sym c.occurrence.ensures) ∙ (sym c.is_to_come.ensures ∙ c.if-is_to_come.false) in
    rw comes at
    (gives-begun (map said_by c.args.files.now) (display_clock c.args.display.now) c.args.window.now (map seen c.args.overrides.now)
    (option_map (λ key. key_rank key.now) c.args.after) (seen c.args.version.now) c.event-event.result.now c.event-event.ensures.event
    (Some (single_entry c.in_ok-single.single)) (sym c.is_single.ensures ∙ c.if-not-is_single.false) c.zones-zones.ensures.clocks c.in_ok-single.ensures)
