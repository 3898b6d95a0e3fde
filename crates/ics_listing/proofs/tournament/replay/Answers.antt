use Rattle.std.proofs.lemmas.Grind.{common_steps}
use Rattle.std.proofs.Common.{◌≡◌, ◌<◌, length, map, ◌∙◌, ap, arith}
use Rattle.std.proofs.lemmas.List.Elements.{All-set}
use Rattle.ics_listing.specs.Inner.Tournament.{above, turn_of}
use Rattle.ics_listing.proofs.TournamentLemmas.{above-zero, nodes-all, settle_up}
use Rattle.ics_listing.proofs.tournament.replay.Goals as goal

pub loop-node-preserved : goal.loop-node-preserved
loop-node-preserved g c =
    let turns = map (λ x. turn_of x.unread x.head) c.args.leads.now in
    let full = nodes-all (length c.args.leads.now) (length c.args.winners.now) c.requires.length (omega arith) in
    record {
      node_in = omega arith;
      leads = All-set (λ lead. lead < length c.args.leads.now) c.loop-node.winners c.loop-node.node c.first_below.result c.first_below.ensures.lead
          c.loop-node.invariant.leads;
      settled =
          rw c.first_below.ensures.first
          (settle_up turns c.loop-node.winners c.loop-node.node (omega arith) (omega (arith, full)) c.loop-node.invariant.settled);
    }

pub returns-clause-settled : goal.returns-clause-settled
returns-clause-settled g c node low high =
    let last : c.loop-node.node ≡ 0 = omega arith in
    c.loop-node.invariant.settled node low high (λ steps e. absurd (omega (arith, ap (above steps) last ∙ above-zero steps)))

pub first_below-requires-clause-node : goal.first_below-requires-clause-node
first_below-requires-clause-node g c =
    omega (arith, nodes-all (length c.args.leads.now) (length c.args.winners.now) c.requires.length (omega arith))

pub first_below-requires-clause-length : goal.first_below-requires-clause-length
first_below-requires-clause-length g c =
    omega (arith, nodes-all (length c.args.leads.now) (length c.args.winners.now) c.requires.length (omega arith))

pub first_below-requires-clause-leads : goal.first_below-requires-clause-leads
first_below-requires-clause-leads g c = grind (arith, common_steps)
