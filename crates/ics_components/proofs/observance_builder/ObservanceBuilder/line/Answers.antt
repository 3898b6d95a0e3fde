use Rattle.std.proofs.Common.{◌≡◌, arith, refl, rules, Option, None, Err}
use Rattle.std.proofs.lemmas.Grind.{common_steps}
use Rattle.std.specs.Option.{option_or}
use Rattle.ics_components.specs.Lines.{Gives, Keeps}
use Rattle.ics_components.specs.declared.fault.FaultKind.{FaultKind}
use Rattle.ics_components.specs.declared.name.Name.TheVariants as name
use Rattle.ics_components.specs.declared.refused.Refused.{Refused}
use Rattle.ics_components.specs.declared.refused.Refused.TheVariants.{Memory, Fault}
use Rattle.ics_components.proofs.Judgements.{observance_line}
use Rattle.ics_components.proofs.observance_builder.ObservanceBuilder.line.Goals as goal

-- the fault of a value comes before one that stands beside it
of-value : {X Y : Type 0} (fault more : Option FaultKind) (value : X) (now next : Y) (e : Refused) → Gives (Err e) fault value →
    Keeps (Err e) now (option_or fault more) next
of-value fault more value now next Memory h = tt
of-value fault more value now next (Fault kind) h = rw h refl

beside-value : {Y Z : Type 0} (fault more : Option FaultKind) (kept next : Y) (now behind : Z) (e : Refused) → fault ≡ None →
    Keeps (Err e) kept more next → Keeps (Err e) now (option_or fault more) behind
beside-value fault more kept next now behind Memory n h = tt
beside-value fault more kept next now behind (Fault kind) n h = rw (n, h) refl

pub returns-in_err-local-in-Dtstart : goal.returns-in_err-local-in-Dtstart
returns-in_err-local-in-Dtstart c =
    let judged = observance_line name.Dtstart c.args.content.now c.args.self.now refl in
    let same : c.from_residual.result ≡ Err c.in_err-local-in-Dtstart.field-0.0 = search rules in
    rw (c.in-Dtstart.is, judged, same, ← c.value-value.ensures)
    (of-value _ _ _ _ _ c.in_err-local-in-Dtstart.field-0.0 c.in_err-local-in-Dtstart.ensures)

pub returns-in_err-keep_once-in-Dtstart : goal.returns-in_err-keep_once-in-Dtstart
returns-in_err-keep_once-in-Dtstart c =
    let judged = observance_line name.Dtstart c.args.content.now c.args.self.now refl in
    let same : c.from_residual-in_err-keep_once-in-Dtstart.result ≡ Err c.in_err-keep_once-in-Dtstart.field-0.0 = search rules in
    rw (c.in-Dtstart.is, judged, same, ← c.value-value.ensures)
    (beside-value _ _ _ _ _ _ c.in_err-keep_once-in-Dtstart.field-0.0 c.in_ok-local-in-Dtstart.ensures.0 c.in_err-keep_once-in-Dtstart.ensures)

pub returns-in_ok-keep_once-in-Dtstart : goal.returns-in_ok-keep_once-in-Dtstart
returns-in_ok-keep_once-in-Dtstart c =
    let judged = observance_line c.args.name c.args.content.now c.args.self.now c.requires in grind (arith, common_steps, judged)

pub returns-in_err-read_offset-in-OffsetFrom : goal.returns-in_err-read_offset-in-OffsetFrom
returns-in_err-read_offset-in-OffsetFrom c =
    let judged = observance_line c.args.name c.args.content.now c.args.self.now c.requires in grind (arith, common_steps, judged)

pub returns-in_err-keep_once-in-OffsetFrom : goal.returns-in_err-keep_once-in-OffsetFrom
returns-in_err-keep_once-in-OffsetFrom c =
    let judged = observance_line c.args.name c.args.content.now c.args.self.now c.requires in grind (arith, common_steps, judged)

pub returns-in_ok-keep_once-in-OffsetFrom : goal.returns-in_ok-keep_once-in-OffsetFrom
returns-in_ok-keep_once-in-OffsetFrom c =
    let judged = observance_line c.args.name c.args.content.now c.args.self.now c.requires in grind (arith, common_steps, judged)

pub returns-in_err-read_offset-in-OffsetTo : goal.returns-in_err-read_offset-in-OffsetTo
returns-in_err-read_offset-in-OffsetTo c =
    let judged = observance_line c.args.name c.args.content.now c.args.self.now c.requires in grind (arith, common_steps, judged)

pub returns-in_err-keep_once-in-OffsetTo : goal.returns-in_err-keep_once-in-OffsetTo
returns-in_err-keep_once-in-OffsetTo c =
    let judged = observance_line c.args.name c.args.content.now c.args.self.now c.requires in grind (arith, common_steps, judged)

pub returns-in_ok-keep_once-in-OffsetTo : goal.returns-in_ok-keep_once-in-OffsetTo
returns-in_ok-keep_once-in-OffsetTo c =
    let judged = observance_line c.args.name c.args.content.now c.args.self.now c.requires in grind (arith, common_steps, judged)

pub returns-in_err-daily_in-in-Rrule : goal.returns-in_err-daily_in-in-Rrule
returns-in_err-daily_in-in-Rrule c =
    let judged = observance_line c.args.name c.args.content.now c.args.self.now c.requires in grind (arith, common_steps, judged)

pub returns-in_err-keep_once-in-Rrule : goal.returns-in_err-keep_once-in-Rrule
returns-in_err-keep_once-in-Rrule c =
    let judged = observance_line c.args.name c.args.content.now c.args.self.now c.requires in grind (arith, common_steps, judged)

pub returns-in_ok-keep_once-in-Rrule : goal.returns-in_ok-keep_once-in-Rrule
returns-in_ok-keep_once-in-Rrule c =
    let judged = observance_line c.args.name c.args.content.now c.args.self.now c.requires in grind (arith, common_steps, judged)

pub returns-in_err-read_locals-in-Rdate : goal.returns-in_err-read_locals-in-Rdate
returns-in_err-read_locals-in-Rdate c =
    let judged = observance_line c.args.name c.args.content.now c.args.self.now c.requires in grind (arith, common_steps, judged)

pub returns-in_ok-append-in-Rdate : goal.returns-in_ok-append-in-Rdate
returns-in_ok-append-in-Rdate c =
    let judged = observance_line c.args.name c.args.content.now c.args.self.now c.requires in grind (arith, common_steps, judged)

pub returns-in_default : goal.returns-in_default
returns-in_default c =
    let judged = observance_line c.args.name c.args.content.now c.args.self.now c.requires in grind (arith, common_steps, judged)
