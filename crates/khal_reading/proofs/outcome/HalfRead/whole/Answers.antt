use Rattle.std.proofs.Common.{◌∙◌, ℕ, Err, [], ap, ap₂, subst, sym}
use Rattle.ics_calendar.specs.Files.{UnresolvedSaid, file_of, wanted_names}
use Rattle.ics_calendar.specs.UnresolvedFiles.{IsFaultOf}
use Rattle.ics_components.specs.declared.fault.FaultKind.{FaultKind}
use Rattle.khal_reading.specs.Gives.{FileGives, kept_read, whole}
use Rattle.khal_reading.proofs.OutcomeLemmas.{whole-kept}
use Rattle.khal_reading.proofs.outcome.HalfRead.whole.Goals as goal

pub returns-in-Ok-clause-ok : goal.returns-in-Ok-clause-ok
returns-in-Ok-clause-ok c = λ keep bytes read.
    let seen : UnresolvedSaid → FileGives = λ said. record { wants = said.wants; gives = λ files. whole (said.says files) } in
    ap seen (c.in-Ok.ensures.unresolved keep bytes read)
    ∙ (λ i. record { wants = wanted_names bytes; gives = λ files. whole-kept keep (file_of files bytes) i })

pub returns-in-Err-At-clause-ok : goal.returns-in-Err-At-clause-ok
returns-in-Err-At-clause-ok c = λ keep bytes read.
    let fault = subst (IsFaultOf bytes) c.in-Err-At.field-0-is (c.in-Err-At.ensures.fault keep bytes read) in
    let faulty : ℕ → FaultKind → FileGives =
    λ line kind. record { wants = []; gives = λ files. whole (Err (record { line = line; kind = kind })) } in
    ap₂ faulty c.in-Err-At.line-is c.in-Err-At.kind-is
    ∙ (λ i. record { wants = sym fault.unasked i; gives = λ files. kept_read keep (whole (sym (fault.refused files) i)) })
