use Rattle.ics_zone.specs.ZoneOffsets.{zone_offset}
use Rattle.ics_zone.specs.Inner.ZoneBounds.{zone_offset_short}
use Rattle.ics_zone.proofs.MomentLemmas.{moment_unique, moment_found}
use Rattle.ics_zone.proofs.zone_laws.one_moment.Goals as goal

pub returns-clause-most : goal.returns-clause-most
returns-clause-most c = λ zone. moment_unique (zone_offset zone)

pub returns-clause-found : goal.returns-clause-found
returns-clause-found c = λ zone local facts. moment_found (zone_offset zone) (zone_offset_short zone facts) local
