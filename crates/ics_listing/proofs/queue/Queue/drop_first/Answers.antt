use Rattle.std.proofs.Common.{List, ◌∙◌, ap}
use Rattle.ics_listing.specs.declared.queue.Waiting.{Waiting}
use Rattle.ics_listing.specs.WaitingOrder.{between_in, in_order}
use Rattle.ics_listing.proofs.WaitingLemmas.{rest-line}
use Rattle.ics_listing.proofs.queue.Queue.drop_first.Goals as goal

pub returns-then-is_empty : goal.returns-then-is_empty
returns-then-is_empty c =
    let q = c.args.self.now in
    ap (λ (ws : List Waiting). in_order ws (between_in q.between.entries)) c.pop_front.ensures.rest
    ∙ rest-line q.line.items (between_in q.between.entries) q.first_in_line
