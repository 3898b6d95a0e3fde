use Rattle.std.proofs.Common.{◌≡◌, Some, List, slice_get, sym, ◌∙◌, ap}
use Rattle.ics_event.specs.declared.event.Event.{Event}
use Rattle.ics_listing.specs.Waiting.{start_of, waiting_in}
use Rattle.ics_listing.specs.declared.start.Start.{Start}
use Rattle.ics_starts.proofs.QueueLemmas.{none-start, some-start}
use Rattle.ics_starts.proofs.rule_starts.RuleStarts.first.Goals as goal

pub returns-in-None : goal.returns-in-None
returns-in-None c =
    let s = c.args.self.now in
    sym (ap (λ (xs : List Start). slice_get xs 0) (none-start s.event.now.start (waiting_in s.held) (sym c.first.ensures ∙ c.in-None.is)))

pub returns-in-Some : goal.returns-in-Some
returns-in-Some c =
    let s = c.args.self.now in
    let is : c.start.result ≡ start_of s.event.now.start c.in-Some.first =
    c.start.ensures ∙ ap (λ (v : Event). start_of v.start c.in-Some.first) c.event.view_is in
    ap (λ (x : Start). Some x) is ∙ some-start s.event.now.start (waiting_in s.held) c.in-Some.first (sym c.first.ensures ∙ c.in-Some.is)
