use Rattle.std.proofs.Common.{◌≡◌, ◌∷◌, [], List, w64, to_z, of_z, refl, sym, ap, ◌∙◌, arith, map, SFits, rules}
use Rattle.std.proofs.lemmas.Int.{ints}
use Rattle.ics_listing.specs.StartOrder.{moment_cmp}
use Rattle.ics_listing.specs.Merged.{union}
use Rattle.ics_listing.specs.Waiting.{start_of, starts_in, waiting_in}
use Rattle.ics_listing.specs.declared.queue.Waiting.{Waiting}
use Rattle.ics_listing.specs.declared.start.Start.{Start}
use Rattle.ics_starts.proofs.QueueLemmas.{rises-waiting, start-same, union-starts}
use Rattle.ics_listing.proofs.StartOrderLemmas.{calendar-day, own-day}
use Rattle.ics_starts.proofs.StartSourceLemmas.{gives-by}
use Rattle.ics_starts.proofs.rule_starts.hold.Goals as goal

pub is_let_through-requires-clause-first : goal.is_let_through-requires-clause-first
is_let_through-requires-clause-first c =
    rw c.local_of-first.ensures (calendar-day _ (own-day c.event.inside.start c.event.invariant.start))

pub put-requires : goal.put-requires
put-requires c = rises-waiting c.args.event.now.start (waiting_in c.args.held.now) c.requires.rises

pub returns-in_ok-put-clause-held : goal.returns-in_ok-put-clause-held
returns-in_ok-put-clause-held c = λ clocks is.
    let w = c.args.waiting in
    let fits : SFits w64 c.args.waiting.moment = search rules in
    let back : to_z w64 (of_z w64 c.args.waiting.moment) ≡ c.args.waiting.moment = omega (arith, ints) in
    let given = gives-by clocks c.args.event.now c.args.rule.now c.args.window c.args.waiting.local (back ∙ is) c.requires.day c.requires.kept
    (sym c.if-is_let_through.true ∙ c.is_let_through.ensures) in
    rw (← given) (◌∙◌ {A = List Start} (ap (λ (ws : List Waiting). map (start_of c.args.event.now.start) ws) c.in_ok-put.ensures.put)
    (◌∙◌ {A = List Start} (union-starts c.args.event.now.start (waiting_in c.args.held.now) (c.args.waiting ∷ []))
    (ap (λ (s : Start). union moment_cmp (starts_in c.args.event.now.start c.args.held.now) (s ∷ []))
    (start-same clocks c.args.event.now c.args.waiting is))))

pub returns-else-is_let_through-clause-held : goal.returns-else-is_let_through-clause-held
returns-else-is_let_through-clause-held c = λ clocks is.
    let fits : SFits w64 c.args.waiting.moment = search rules in
    let back : to_z w64 (of_z w64 c.args.waiting.moment) ≡ c.args.waiting.moment = omega (arith, ints) in
    let given = gives-by clocks c.args.event.now c.args.rule.now c.args.window c.args.waiting.local (back ∙ is) c.requires.day c.requires.kept
    (sym c.if-is_let_through.false ∙ c.is_let_through.ensures) in
    rw (← given) refl
