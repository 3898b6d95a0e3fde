use Rattle.std.proofs.Common.{◌≡◌, length, arith}
use Rattle.std.proofs.lemmas.List.{length-map}
use Rattle.ics_listing.specs.WaitingOrder.{between_in}
use Rattle.ics_listing.proofs.WaitingLemmas.{length-in_order}
use Rattle.ics_listing.proofs.queue.Queue.len.Goals as goal

pub returns : goal.returns
returns c =
    let q = c.args.self.now in
    let between : length (between_in q.between.entries) ≡ length q.between.entries = length-map q.between.entries _ in
    omega (arith, c.len.ensures, c.len-2.ensures.len, q.line.ok.0, between, length-in_order q.line.items (between_in q.between.entries))
