use Rattle.std.proofs.Common.{◌-◌, arith}
use Rattle.std.proofs.lemmas.Grind.{common_steps}
use Rattle.khal_ports.proofs.HandedOn.{all-handed, and-piece}
use Rattle.khal_ports.proofs.file_pieces.hand_on.Goals as goal

pub loop-count-preserved : goal.loop-count-preserved
loop-count-preserved g c =
    and-piece g.P.Pieces.took c.loop-count.invariant c.in-Ok.ensures (grind (arith, common_steps)) (grind (arith, common_steps))

-- no byte is left
pub returns-then-count-eq0 : goal.returns-then-count-eq0
returns-then-count-eq0 g c =
    all-handed g.P.Pieces.took (c.loop-count.left - c.in_ok-count.count)
    (and-piece g.P.Pieces.took c.loop-count.invariant c.in-Ok.ensures (grind (arith, common_steps)) (grind (arith, common_steps)))
