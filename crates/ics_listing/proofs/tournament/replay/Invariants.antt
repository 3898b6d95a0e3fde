use Rattle.std.proofs.Common.{◌<◌, All, length, map}
use Rattle.ics_listing.specs.Inner.Tournament.{turn_of, AreSettledBut}
use Rattle.ics_listing.proofs.tournament.replay.Given as goal

abbrev pub invariant-loop-node : goal.invariant-loop-node
invariant-loop-node g l = record {
  node_in : l.node < length l.leads;
  leads : All (λ lead. lead < length l.leads) l.winners;
  settled : AreSettledBut l.node (map (λ x. turn_of x.unread x.head) l.leads) l.winners;
}

abbrev pub decreases-loop-node : goal.decreases-loop-node
decreases-loop-node g l = l.node
