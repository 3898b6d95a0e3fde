use Rattle.std.proofs.Common.{subst}
use Rattle.std.proofs.lemmas.Result.{err_from_is_err_and}
use Rattle.ics_calendar.specs.Files.{SaysFile}
use Rattle.ics_calendar.proofs.Whole.{fault-says}
use Rattle.ics_calendar.proofs.read.read_file.Goals as goal

pub returns : goal.returns
returns c = subst (SaysFile c.settle.result) (λ i. (c.in_ok-unresolved.ensures.unresolved i).says (c.in_ok-files.ensures i)) c.settle.ensures

pub returns-in_err-unresolved : goal.returns-in_err-unresolved
returns-in_err-unresolved c =
    let e = err_from_is_err_and c.from_residual.result c.from_residual.ensures.1 in
    rw (e.1, e.2) (fault-says c.args.bytes.now c.in_err-unresolved.field-0.0 _ c.in_err-unresolved.ensures.fault)
