use Rattle.std.proofs.Common.{sym, ap, ◌∙◌}
use Rattle.ics_components.specs.Components.{is_calendar_context}
use Rattle.ics_components.specs.PlacedLines.{context_of}
use Rattle.ics_components.proofs.Paths.{deep_calendar}
use Rattle.ics_components.proofs.path.Path.is_in_calendar.Goals as goal

-- more than one component is open
pub returns-in_default-2 : goal.returns-in_default-2
returns-in_default-2 c =
    sym (ap (λ p. is_calendar_context (context_of p)) (sym c.self.view_is)
    ∙ deep_calendar c.self.inside.open.items (rw (← c.as_slice.ensures.value) c.in_default.len_at_least))
