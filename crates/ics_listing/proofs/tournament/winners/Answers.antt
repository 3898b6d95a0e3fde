use Rattle.std.proofs.lemmas.Grind.{common_steps}
use Rattle.std.proofs.Common.{◌≡◌, ◌-◌, ◌<◌, length, map, ap, ◌∙◌, arith, length-set}
use Rattle.std.proofs.lemmas.List.{length-replicate}
use Rattle.std.proofs.lemmas.List.Elements.{All-set}
use Rattle.ics_listing.specs.Inner.Tournament.{turn_of}
use Rattle.ics_listing.proofs.TournamentLemmas.{settle_down, zeros-within}
use Rattle.ics_listing.proofs.tournament.winners.Goals as goal

pub loop-node-init : goal.loop-node-init
loop-node-init g c =
    let zeros = c.in_ok-winners.ensures.items_if_clones_equal (λ y e. e) in
    let long : length c.in_ok-winners.winners.items ≡ length c.args.leads.now = ap length zeros ∙ length-replicate (length c.args.leads.now) 0 in
    record {
      same_length = long;
      leads = zeros-within (length c.args.leads.now) c.in_ok-winners.winners.items zeros;
      settled = λ node low high most. absurd (omega arith);
    }

pub loop-node-preserved : goal.loop-node-preserved
loop-node-preserved g c =
    let turns = map (λ x. turn_of x.unread x.head) c.args.leads.now in
    let winners = c.loop-node.winners.items in
    let node = c.loop-node.node - 1 in
    let lent = c.deref.ensures.value in
    record {
      same_length = length-set winners node c.first_below.result ∙ c.loop-node.invariant.same_length;
      leads = All-set (λ lead. lead < length c.args.leads.now) winners node c.first_below.result c.first_below.ensures.lead c.loop-node.invariant.leads;
      settled =
          rw (c.first_below.ensures.first, lent)
          (settle_down turns winners node (omega arith) (omega (arith, c.loop-node.invariant.same_length))
          (λ k low high most. c.loop-node.invariant.settled k low high (omega arith)));
    }

pub returns-clause-settled : goal.returns-clause-settled
returns-clause-settled g c node low high = c.loop-node.invariant.settled node low high (omega arith)

pub first_below-requires-clause-sorted : goal.first_below-requires-clause-sorted
first_below-requires-clause-sorted g c = grind (arith, common_steps)

pub first_below-requires-clause-node : goal.first_below-requires-clause-node
first_below-requires-clause-node g c = grind (arith, common_steps)

pub first_below-requires-clause-length : goal.first_below-requires-clause-length
first_below-requires-clause-length g c = grind (arith, common_steps)

pub first_below-requires-clause-leads : goal.first_below-requires-clause-leads
first_below-requires-clause-leads g c = grind (arith, common_steps)

pub index_mut-requires : goal.index_mut-requires
index_mut-requires g c = grind (arith, common_steps)
