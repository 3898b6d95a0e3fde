use Rattle.std.proofs.Common.{sym, ◌∙◌}
use Rattle.ics_components.proofs.BareLines.{bad_bare, bad_stops}
use Rattle.ics_components.proofs.uid_search.UidSearch.take_bad.Goals as goal

pub returns-then-is_in_any_event : goal.returns-then-is_in_any_event
returns-then-is_in_any_event c = bad_stops c.args.number c.args.self.now.path (sym c.is_in_any_event.ensures ∙ c.if-is_in_any_event.true)

pub returns : goal.returns
returns c = bad_bare c.args.number c.args.self.now.path (sym c.is_in_any_event.ensures ∙ c.if-is_in_any_event.false)
