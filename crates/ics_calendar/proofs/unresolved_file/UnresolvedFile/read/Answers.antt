use Rattle.std.proofs.Common.{◌≡◌, ◌∙◌, ap, arith, subst, [], IfOk}
use Rattle.ics_calendar.specs.Files.{UnresolvedSaid, unresolved_of}
use Rattle.ics_calendar.specs.Kept.{kept_unresolved}
use Rattle.ics_calendar.specs.UnresolvedFiles.{unresolved_said}
use Rattle.ics_calendar.proofs.KeptFiles.{unresolved-whole}
use Rattle.ics_calendar.proofs.unresolved_file.UnresolvedFile.read.Goals as goal

-- the file is one piece, of which all texts are kept
pub returns-clause-unresolved : goal.returns-clause-unresolved
returns-clause-unresolved c =
    let bytes = c.args.bytes.now in
    let read = c.in_ok-add.ensures c.all.result [] c.new-reader.ensures (omega (arith, c.requires)) in
    subst (λ (said : UnresolvedSaid). IfOk c.of_reader.result (λ unresolved. unresolved_said unresolved ≡ said))
    (ap (λ keep. kept_unresolved keep (unresolved_of bytes)) c.all.ensures ∙ unresolved-whole (unresolved_of bytes))
    (c.of_reader.ensures.unresolved c.all.result bytes read)

pub returns-clause-whole : goal.returns-clause-whole
returns-clause-whole c =
    c.of_reader.ensures.whole c.all.result c.args.bytes.now (c.in_ok-add.ensures c.all.result [] c.new-reader.ensures (omega (arith, c.requires)))

pub returns-clause-fault : goal.returns-clause-fault
returns-clause-fault c =
    c.of_reader.ensures.fault c.all.result c.args.bytes.now (c.in_ok-add.ensures c.all.result [] c.new-reader.ensures (omega (arith, c.requires)))

pub add-requires : goal.add-requires
add-requires c = (c.all.result, [], c.new-reader.ensures, omega (arith, c.requires))

pub of_reader-requires : goal.of_reader-requires
of_reader-requires c = (c.all.result, c.args.bytes.now, c.in_ok-add.ensures c.all.result [] c.new-reader.ensures (omega (arith, c.requires)))
