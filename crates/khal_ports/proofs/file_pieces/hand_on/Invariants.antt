use Rattle.khal_ports.proofs.HandedOn.{HandedOn}
use Rattle.khal_ports.proofs.file_pieces.hand_on.Given as goal

abbrev pub invariant-loop-count : goal.invariant-loop-count
invariant-loop-count g l = HandedOn g.P.Pieces.took l.initial.pieces l.pieces l.left

abbrev pub decreases-loop-count : goal.decreases-loop-count
decreases-loop-count g l = l.left
