use Rattle.std.proofs.Common.{◌≡◌, ◌<◌, ◌≤◌, All, length, map}
use Rattle.ics_listing.specs.Inner.Tournament.{turn_of, AreSettledWhere}
use Rattle.ics_listing.proofs.tournament.winners.Given as goal

abbrev pub invariant-loop-node : goal.invariant-loop-node
invariant-loop-node g l = record {
  same_length : length l.winners.items ≡ length l.leads;
  leads : All (λ lead. lead < length l.leads) l.winners.items;
  settled : AreSettledWhere (λ node. l.node ≤ node) (map (λ x. turn_of x.unread x.head) l.leads) l.winners.items;
}
