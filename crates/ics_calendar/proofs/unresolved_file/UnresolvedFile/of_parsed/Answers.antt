use Rattle.std.proofs.Common.{sym, ap, ◌∙◌, subst}
use Rattle.std.specs.List.{flat_map}
use Rattle.ics_calendar.specs.Settled.{all_unknown, known_in, unresolved_by}
use Rattle.ics_calendar.specs.Wanted.{each_once}
use Rattle.ics_calendar.specs.ZoneTables.{known_by}
use Rattle.ics_components.specs.ParsedFileSeen.{ParsedFileSeen}
use Rattle.ics_components.specs.ParsedFiles.{IsSoundParsed}
use Rattle.ics_calendar.proofs.Settling.{unresolved-sound}
use Rattle.ics_calendar.proofs.unresolved_file.UnresolvedFile.of_parsed.Goals as goal

pub invariant_of-result : goal.invariant_of-result
invariant_of-result c = (
  rw c.in_ok-table.ensures (unresolved-sound _ (subst IsSoundParsed (sym c.parsed.view_is) c.requires)),
  c.in_ok-wanted.ensures ∙ ap (λ checks. each_once (all_unknown (known_by c.in_ok-table.table).index checks)) c.deref-2.ensures.value,
)

pub returns : goal.returns
returns c =
    (λ i. unresolved_by (c.in_ok-table.ensures i) (flat_map (λ own. own.items) c.parsed.inside.events.items) c.parsed.inside.checks.items)
    ∙ ap (λ (g : ParsedFileSeen). unresolved_by (known_in g.zones) g.events g.checks) c.parsed.view_is
