use Rattle.std.proofs.Common.{sym, ap, ◌∙◌, ◌≡◌, subst, map, IfOk}
use Rattle.ics_calendar.specs.Parts.{names_for_parts, NamedFile}
use Rattle.ics_calendar.specs.Inner.SoundParts.{PartsSaid}
use Rattle.ics_calendar.proofs.Partly.{wants-parted, wants-refused}
use Rattle.ics_calendar.proofs.partial_file.PartialFile.wanted.Goals as goal

pub returns-in-Parted : goal.returns-in-Parted
returns-in-Parted c =
    let read = rw c.in-Parted.is at c.self.invariant.1 in
    let wants = c.wanted-in-Parted.ensures ∙ ap (λ (parts : PartsSaid). parts.wants) read.1.1
    ∙ sym (wants-parted c.self.inside.name.now c.self.inside.bytes.now _ read.0 read.1.0)
    ∙ ap (λ (file : NamedFile). names_for_parts file.name file.bytes) c.self.view_is in
    subst (λ names. IfOk c.copied.result (λ copies. map (λ name. name.items) copies.items ≡ names)) wants c.copied.ensures

pub returns-in-Refused : goal.returns-in-Refused
returns-in-Refused c =
    let read = rw c.in-Refused.is at c.self.invariant.1 in
    (λ i. map (λ name. name.items) (c.new.ensures.items i)) ∙ sym (wants-refused c.self.inside.name.now c.self.inside.bytes.now _ read.0 read.1)
    ∙ ap (λ (file : NamedFile). names_for_parts file.name file.bytes) c.self.view_is
