use Rattle.khal_reading.specs.Inner.Outcomes.{half_gives}
use Rattle.khal_reading.proofs.LearnedLemmas.{learns-nothing}
use Rattle.khal_ports.proofs.Written.{on_err}
use Rattle.khal_reading.proofs.outcome.wants_unread.Goals as goal

pub returns-in_err-wanted-clause-some : goal.returns-in_err-wanted-clause-some
returns-in_err-wanted-clause-some g c =
    on_err c.from_residual.result (λ asked k.
    learns-nothing g.Z.ZoneSource.finds asked (half_gives c.args.half.now).wants c.args.zones.now)
