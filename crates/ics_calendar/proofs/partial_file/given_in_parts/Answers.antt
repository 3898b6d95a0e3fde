use Rattle.std.proofs.Common.{sym, ap, ◌∙◌, ◌≡◌, subst, IfOk}
use Rattle.ics_calendar.specs.Inner.SoundParts.{PartsSaid}
use Rattle.ics_calendar.specs.ZoneTables.{given_by}
use Rattle.ics_calendar.proofs.Partly.{gives-parts}
use Rattle.ics_calendar.proofs.partial_file.given_in_parts.Goals as goal

pub returns-in-Some : goal.returns-in-Some
returns-in-Some c =
    let read = rw c.in-Some.is at c.in_ok-parts.ensures in
    let gives = ap (λ (said : PartsSaid). said.gives (given_by c.args.files.now) c.args.fault) read.1
    ∙ sym (gives-parts c.args.name.now c.args.bytes.now (given_by c.args.files.now) c.args.fault c.requires.refused read.0) in
    subst (λ gives. IfOk c.settle.result (λ given. given ≡ gives)) gives c.settle.ensures
