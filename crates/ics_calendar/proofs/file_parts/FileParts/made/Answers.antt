use Rattle.std.proofs.Common.{sym, ◌∙◌}
use Rattle.ics_components.specs.Parted.{PartedFileSeen, parted_lines}
use Rattle.ics_components.specs.PlacedLines.{placed}
use Rattle.ics_calendar.proofs.PartsAre.{lacks-all, lacks-gathered, never-none, read-made}
use Rattle.ics_calendar.proofs.file_parts.FileParts.made.Goals as goal

pub returns-in_ok-of-in-Some : goal.returns-in_ok-of-in-Some
returns-in_ok-of-in-Some c =
    let bytes = c.args.bytes.now in
    let parted : PartedFileSeen = parted_lines (placed bytes) in
    read-made c.args.name.now bytes parted (lacks-gathered bytes c.requires) c.in-Some.parted c.in_ok-of-in-Some.field-0 (lacks-all bytes c.requires)
    (sym c.in_ok-parted.ensures.parted ∙ c.in-Some.is) c.in_ok-of-in-Some.ensures

pub returns-in-None : goal.returns-in-None
returns-in-None c =
    let bytes = c.args.bytes.now in
    let parted : PartedFileSeen = parted_lines (placed bytes) in
    absurd (never-none c.args.name.now bytes parted (lacks-gathered bytes c.requires) (sym c.in_ok-parted.ensures.parted ∙ c.in-None.is))
