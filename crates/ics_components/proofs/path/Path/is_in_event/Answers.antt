use Rattle.std.proofs.Common.{◌≡◌, false, ◌==◌, length, sym, ap, ◌∙◌, arith}
use Rattle.std.proofs.lemmas.Bool.{ne_eqb}
use Rattle.ics_components.specs.Components.{is_event_context}
use Rattle.ics_components.specs.PlacedLines.{context_of}
use Rattle.ics_components.proofs.Paths.{no_event}
use Rattle.ics_components.proofs.path.Path.is_in_event.Goals as goal

-- fewer than two components are open, or more
pub returns-in_default : goal.returns-in_default
returns-in_default c =
    let less = c.in_default.len_below in
    let other : (length c.as_slice.result.now == 2) ≡ false = ne_eqb (length c.as_slice.result.now) 2 (λ e. omega (arith, e, less)) in
    sym (ap (λ p. is_event_context (context_of p)) (sym c.self.view_is)
    ∙ no_event c.self.inside.open.items (rw (← c.as_slice.ensures.value) other))

pub returns-in_default-2 : goal.returns-in_default-2
returns-in_default-2 c =
    let more = c.in_default.len_at_least in
    let other : (length c.as_slice.result.now == 2) ≡ false = ne_eqb (length c.as_slice.result.now) 2 (λ e. omega (arith, e, more)) in
    sym (ap (λ p. is_event_context (context_of p)) (sym c.self.view_is)
    ∙ no_event c.self.inside.open.items (rw (← c.as_slice.ensures.value) other))
