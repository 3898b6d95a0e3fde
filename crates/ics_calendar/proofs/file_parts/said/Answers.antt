use Rattle.std.proofs.Common.{sym, ap, ◌∙◌, map, subst, Err}
use Rattle.ics_zone.specs.ZoneSaid.{zone_said}
use Rattle.ics_calendar.specs.Files.{SaysFile, UnresolvedSaid}
use Rattle.ics_calendar.specs.Parts.{said_in}
use Rattle.ics_calendar.specs.UnresolvedFiles.{unresolved_said}
use Rattle.ics_calendar.specs.ZoneTables.{given_by}
use Rattle.ics_calendar.proofs.file_parts.said.Goals as goal

pub returns-in-Ok : goal.returns-in-Ok
returns-in-Ok c = sym (ap said_in (ap (λ (d : UnresolvedSaid). d.says (given_by c.args.files.now)) (sym c.in_ok-of.ensures) ∙ c.in-Ok.ensures))

pub returns-in-Err-At : goal.returns-in-Err-At
returns-in-Err-At c =
    let says = (unresolved_said c.in_ok-of.field-0).says (given_by c.args.files.now) in
    let fault = subst (λ fault. SaysFile (Err fault) says) c.in-Err-At.field-0-is c.in-Err-At.ensures in
    (λ i. record { zones = map zone_said (c.new.ensures.items i); events = c.new-in-Err-At.ensures.items i })
    ∙ sym (ap said_in (ap (λ (d : UnresolvedSaid). d.says (given_by c.args.files.now)) (sym c.in_ok-of.ensures) ∙ fault))
