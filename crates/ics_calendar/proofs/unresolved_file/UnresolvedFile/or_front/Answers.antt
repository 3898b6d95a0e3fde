use Rattle.std.proofs.Common.{sym, ap, ◌∙◌, subst}
use Rattle.ics_components.specs.ParsedFileSeen.{ParsedFileSeen}
use Rattle.ics_components.specs.ParsedFiles.{IsSoundParsed}
use Rattle.ics_calendar.specs.Settled.{known_in, unresolved_by}
use Rattle.ics_calendar.proofs.KeptFiles.{unresolved-all}
use Rattle.ics_calendar.proofs.Whole.{unresolved_at, parsed, first-fault, whole-parsed}
use Rattle.ics_calendar.proofs.unresolved_file.UnresolvedFile.or_front.Goals as goal

pub of_parsed-requires : goal.of_parsed-requires
of_parsed-requires c = subst IsSoundParsed (sym c.in_ok-lists-in-Whole.ensures) (rw c.in-Whole.is at c.in_ok-parsed.ensures).1

-- all texts are kept
pub returns-in_ok-of_parsed-in-Whole : goal.returns-in_ok-of_parsed-in-Whole
returns-in_ok-of_parsed-in-Whole c =
    let bytes = c.args.bytes.now in
    let rises = c.numbers_rise.ensures bytes in
    let says = (rw c.in-Whole.is at c.in_ok-parsed.ensures).0 in (
      whole-parsed bytes says.0 rises says.1,
      c.in_ok-of_parsed-in-Whole.ensures
          ∙ (ap (λ (g : ParsedFileSeen). unresolved_by (known_in g.zones) g.events g.checks) c.in_ok-lists-in-Whole.ensures
          ∙ (unresolved-all c.all.result c.in-Whole.parsed says.0 c.all.ensures says.2 ∙ sym (parsed bytes rises ∙ ap unresolved_at says.1))),
    )

pub returns-in-Faulty : goal.returns-in-Faulty
returns-in-Faulty c =
    let bytes = c.args.bytes.now in
    let read = rw c.in-Faulty.is at c.in_ok-parsed.ensures in
    (first-fault bytes c.in-Faulty.fault (c.numbers_rise.ensures bytes) read.0, read.1 c.all.ensures)
