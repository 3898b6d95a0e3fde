use Rattle.std.proofs.Common.{sym, ◌∙◌, cond, get_or, Some, None}
use Rattle.std.specs.Option.{option_or}
use Rattle.ics_components.specs.declared.fault.FaultKind.TheVariants.{BadLine}
use Rattle.ics_calendar.proofs.Shared.{calendar-next, numbers-tie}
use Rattle.ics_calendar.proofs.shared_faults.of_calendars.Goals as goal

pub loop-pair-preserved : goal.loop-pair-preserved
loop-pair-preserved c = λ k.
    let i = c.loop-pair.pair-index in
    let pair = get_or c.args.calendars.now i (0, record { line = 0; kind = BadLine }) in
    c.in_ok-put_first.ensures.put k ∙ (λ j. option_or (c.loop-pair.invariant k j) (cond (numbers-tie pair.0 k j) (Some pair.1) None))
    ∙ sym (calendar-next c.args.calendars.now i (0, record { line = 0; kind = BadLine }) k c.loop-pair-test.true)
