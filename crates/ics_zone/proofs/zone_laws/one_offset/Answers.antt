use Rattle.ics_zone.proofs.JumpLemmas.{offset_unique}
use Rattle.ics_zone.proofs.OnsetLemmas.{offset_found}
use Rattle.ics_zone.proofs.zone_laws.one_offset.Goals as goal

pub returns-clause-most : goal.returns-clause-most
returns-clause-most c = offset_unique

pub returns-clause-found : goal.returns-clause-found
returns-clause-found c = λ zone t facts. offset_found zone facts t
