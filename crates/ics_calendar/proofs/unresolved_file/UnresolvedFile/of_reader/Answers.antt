use Rattle.std.proofs.Common.{sym, ap, ◌∙◌, subst, Ok}
use Rattle.std.proofs.lemmas.Result.{err_from_is_err_and}
use Rattle.ics_components.specs.ParsedFileSeen.{ParsedFileSeen}
use Rattle.ics_components.specs.ParsedFiles.{IsSoundParsed}
use Rattle.ics_calendar.specs.Kept.{kept_unresolved}
use Rattle.ics_calendar.specs.Settled.{known_in, unresolved_by}
use Rattle.ics_calendar.proofs.KeptFiles.{unresolved-kept}
use Rattle.ics_calendar.proofs.Whole.{unresolved_at, parsed, fault-parsed, whole-parsed}
use Rattle.ics_calendar.proofs.unresolved_file.UnresolvedFile.of_reader.Goals as goal

pub returns-in_err-parsed-clause-fault : goal.returns-in_err-parsed-clause-fault
returns-in_err-parsed-clause-fault c = λ keep bytes read.
    let e = err_from_is_err_and c.from_residual.result c.from_residual.ensures.1 in
    rw (e.1, e.2) (fault-parsed keep bytes c.in_err-parsed.field-0.0 (c.numbers_rise.ensures bytes) (c.in_err-parsed.ensures.parsed keep bytes read))

pub returns-clause-whole : goal.returns-clause-whole
returns-clause-whole c = λ keep bytes read.
    let says = c.in_ok-parsed.ensures.parsed keep bytes read in whole-parsed bytes says.0 (c.numbers_rise.ensures bytes) says.1

pub of_parsed-requires : goal.of_parsed-requires
of_parsed-requires c = subst IsSoundParsed (sym c.in_ok-lists.ensures) c.in_ok-parsed.ensures.sound

pub returns-clause-unresolved : goal.returns-clause-unresolved
returns-clause-unresolved c = λ keep bytes read.
    let says = c.in_ok-parsed.ensures.parsed keep bytes read in
    c.in_ok-of_parsed.ensures
    ∙ (ap (λ (g : ParsedFileSeen). unresolved_by (known_in g.zones) g.events g.checks) c.in_ok-lists.ensures
    ∙ (ap (λ (g : ParsedFileSeen). unresolved_at (Ok g)) says.2
    ∙ (unresolved-kept keep says.0
    ∙ ap (kept_unresolved keep) (sym (parsed bytes (c.numbers_rise.ensures bytes) ∙ ap unresolved_at says.1)))))
