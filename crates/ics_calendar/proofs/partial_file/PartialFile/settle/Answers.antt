use Rattle.std.proofs.Common.{sym, ap, ◌∙◌, ◌≡◌, subst, Err, IfOk}
use Rattle.ics_file.specs.File.{said_by}
use Rattle.ics_calendar.specs.Files.{SaysFile, UnresolvedSaid}
use Rattle.ics_calendar.specs.Parts.{file_gives, NamedFile}
use Rattle.ics_calendar.specs.Inner.SoundParts.{PartsSaid}
use Rattle.ics_calendar.specs.UnresolvedFiles.{unresolved_said}
use Rattle.ics_calendar.specs.ZoneTables.{given_by}
use Rattle.ics_calendar.proofs.Partly.{gives-all, gives-none, gives-parts}
use Rattle.ics_calendar.proofs.partial_file.PartialFile.settle.Goals as goal

pub given_in_parts-requires-clause-refused : goal.given_in_parts-requires-clause-refused
given_in_parts-requires-clause-refused c =
    let whole = rw c.in-Whole.is at c.self.invariant.1 in
    let files = given_by c.args.files.now in
    let fault = subst (λ fault. SaysFile (Err fault) ((unresolved_said c.in-Whole.unresolved).says files)) c.in-Err-At.field-0-is c.in-Err-At.ensures in
    sym (ap (λ (d : UnresolvedSaid). d.says files) whole.1) ∙ fault

pub returns-in-Ok : goal.returns-in-Ok
returns-in-Ok c =
    let whole = rw c.in-Whole.is at c.self.invariant.1 in
    let files = given_by c.args.files.now in
    let said = sym (ap (λ (d : UnresolvedSaid). d.says files) whole.1) ∙ c.in-Ok.ensures in
    (λ i. record { said = said_by c.in-Ok.file; faults = c.new.ensures.items i })
    ∙ sym (gives-all c.self.inside.name.now c.self.inside.bytes.now files (said_by c.in-Ok.file) said)
    ∙ ap (λ (file : NamedFile). file_gives files file.name file.bytes) c.self.view_is

pub returns-in-Err-At : goal.returns-in-Err-At
returns-in-Err-At c =
    subst (λ gives. IfOk c.given_in_parts.result (λ given. given ≡ gives))
    (ap (λ (file : NamedFile). file_gives (given_by c.args.files.now) file.name file.bytes) c.self.view_is) c.given_in_parts.ensures

pub returns-in-Parted : goal.returns-in-Parted
returns-in-Parted c =
    let read = rw c.in-Parted.is at c.self.invariant.1 in
    let files = given_by c.args.files.now in
    let gives = ap (λ (said : PartsSaid). said.gives files c.in-Parted.fault) read.1.1
    ∙ sym (gives-parts c.self.inside.name.now c.self.inside.bytes.now files c.in-Parted.fault (read.0.refused files) read.1.0)
    ∙ ap (λ (file : NamedFile). file_gives files file.name file.bytes) c.self.view_is in
    subst (λ gives. IfOk c.settle-in-Parted.result (λ given. given ≡ gives)) gives c.settle-in-Parted.ensures

pub returns-in-Refused : goal.returns-in-Refused
returns-in-Refused c =
    let read = rw c.in-Refused.is at c.self.invariant.1 in
    let files = given_by c.args.files.now in
    let gives = sym (gives-none c.self.inside.name.now c.self.inside.bytes.now files c.in-Refused.fault (read.0.refused files) read.1)
    ∙ ap (λ (file : NamedFile). file_gives files file.name file.bytes) c.self.view_is in
    subst (λ gives. IfOk c.refused.result (λ given. given ≡ gives)) gives c.refused.ensures
