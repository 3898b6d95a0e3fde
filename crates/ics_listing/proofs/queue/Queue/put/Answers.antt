use Rattle.std.proofs.Common.{◌≡◌, ◌∷◌, [], ◌++◌, List, true, false, rules, ◌∙◌, ap}
use Rattle.std.proofs.lemmas.Bool.{or_right}
use Rattle.ics_listing.specs.declared.queue.Waiting.{Waiting}
use Rattle.ics_listing.specs.WaitingOrder.{between_in, ends_before, in_order, waits_at}
use Rattle.ics_listing.proofs.WaitingLemmas.{put-last, put-none}
use Rattle.ics_listing.proofs.queue.Queue.put.Goals as goal

pub returns-then-is_between-clause-put : goal.returns-then-is_between-clause-put
returns-then-is_between-clause-put c =
    let q = c.args.self.now in
    let waits : waits_at c.args.start.moment (between_in c.args.self.now.between.entries) ≡ true = search rules in
    put-none c.args.start q.line.items (between_in q.between.entries) c.requires (or_right _ _ waits)

pub returns-clause-put : goal.returns-clause-put
returns-clause-put c =
    let q = c.args.self.now in
    let free : waits_at c.args.start.moment (between_in c.args.self.now.between.entries) ≡ false = search rules in
    let ends : ends_before c.args.start.moment c.args.self.now.line.items ≡ true = search rules in
    ap (λ (ws : List Waiting). in_order ws (between_in q.between.entries))
    (c.push_back_reserved.ensures.items ∙ ap (λ (ws : List Waiting). ws ++ c.args.start ∷ []) c.reserve.ensures.items)
    ∙ put-last c.args.start q.line.items (between_in q.between.entries) c.requires ends free
