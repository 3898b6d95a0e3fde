use Rattle.khal_reading.specs.Gives.{given_by_file}
use Rattle.khal_reading.proofs.ZoneLawLemmas.{each-absent, same-file}
use Rattle.khal_reading.proofs.zone_laws.without_zones.Goals as goal

pub returns-clause-none : goal.returns-clause-none
returns-clause-none c = λ before after asked h. each-absent _ (λ b n a z f. f.1) before asked after h

pub returns-clause-same : goal.returns-clause-same
returns-clause-same c = λ asked h keep_going name bytes. same-file asked h (given_by_file keep_going name bytes)
