use Rattle.std.proofs.Common.{◌≡◌, ◌∷◌, ℤ, List, true, false, int_cmp, rules, w64, to_z, of_z, SFits, ◌∙◌, ap, subst, arith, OnOk}
use Rattle.std.specs.BTreeMap.{insert_entry}
use Rattle.std.proofs.lemmas.Bool.{or_left, or_right}
use Rattle.std.proofs.lemmas.Int.{ints}
use Rattle.ics_fields.specs.declared.local.Local.{Local}
use Rattle.ics_listing.specs.declared.queue.Waiting.{Waiting}
use Rattle.ics_listing.specs.WaitingOrder.{begins_after, between_in, in_order, waits_at}
use Rattle.ics_listing.proofs.WaitingLemmas.{first-inserted, placed-between, put-between, put-front, put-none, rises-line}
use Rattle.ics_listing.proofs.queue.Queue.put_earlier.Goals as goal

pub is_in_line-requires : goal.is_in_line-requires
is_in_line-requires c = rises-line c.args.self.now.line.items (between_in c.args.self.now.between.entries) c.requires.rises

pub returns-then-begins_after-clause-put : goal.returns-then-begins_after-clause-put
returns-then-begins_after-clause-put c =
    let q = c.args.self.now in
    let begins : begins_after c.args.start.moment c.args.self.now.line.items ≡ true = search rules in
    ap (λ (ws : List Waiting). in_order ws (between_in q.between.entries))
    (c.push_front_reserved.ensures.items ∙ ap (λ (ws : List Waiting). c.args.start ∷ ws) c.reserve.ensures.items)
    ∙ put-front c.args.start q.line.items (between_in q.between.entries) c.requires.rises q.first_in_line begins

pub returns-then-is_in_line-clause-put : goal.returns-then-is_in_line-clause-put
returns-then-is_in_line-clause-put c =
    let q = c.args.self.now in
    let waits : waits_at c.args.start.moment c.args.self.now.line.items ≡ true = search rules in
    put-none c.args.start q.line.items (between_in q.between.entries) c.requires.rises (or_left _ _ waits)

pub returns-then-is_between-clause-put : goal.returns-then-is_between-clause-put
returns-then-is_between-clause-put c =
    let q = c.args.self.now in
    let waits : waits_at c.args.start.moment (between_in c.args.self.now.between.entries) ≡ true = search rules in
    put-none c.args.start q.line.items (between_in q.between.entries) c.requires.rises (or_right _ _ waits)

pub invariant_of-self-2 : goal.invariant_of-self-2
invariant_of-self-2 c =
    let q = c.args.self.now in
    let fs = c.insert.new.self.entries in
    let fits : SFits w64 c.args.start.moment = search rules in
    let same : to_z w64 (of_z w64 c.args.start.moment) ≡ c.args.start.moment = omega (arith, ints) in
    let free : waits_at c.args.start.moment (between_in c.args.self.now.between.entries) ≡ false = search rules in
    let late : begins_after c.args.start.moment c.args.self.now.line.items ≡ false = search rules in
    let put = subst (λ t. OnOk c.insert.result (fs ≡ insert_entry int_cmp q.between.entries t c.args.start.local)) same c.insert.ensures.entries in
    record { first_in_line = first-inserted c.args.start q.line.items q.between.entries fs c.insert.result put c.insert.ensures.err free q.first_in_line late }

pub returns-clause-put : goal.returns-clause-put
returns-clause-put c =
    let q = c.args.self.now in
    let fits : SFits w64 c.args.start.moment = search rules in
    let same : to_z w64 (of_z w64 c.args.start.moment) ≡ c.args.start.moment = omega (arith, ints) in
    let out : waits_at c.args.start.moment c.args.self.now.line.items ≡ false = search rules in
    let free : waits_at c.args.start.moment (between_in c.args.self.now.between.entries) ≡ false = search rules in
    ap (λ (es : List (ℤ × Local)). in_order q.line.items (between_in es)) c.in_ok-insert.ensures.entries
    ∙ (ap (λ t. in_order q.line.items (between_in (insert_entry int_cmp q.between.entries t c.args.start.local))) same
    ∙ (ap (in_order q.line.items) (placed-between c.args.start q.between.entries free)
    ∙ put-between c.args.start q.line.items (between_in q.between.entries) c.requires.rises out))
