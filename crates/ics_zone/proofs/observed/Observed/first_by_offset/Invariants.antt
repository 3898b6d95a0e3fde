use Rattle.ics_zone.specs.ZoneOffsets.{zone_offset}
use Rattle.ics_zone.specs.Inner.ZoneOnsets.{IsOnsetOf}
use Rattle.ics_zone.proofs.CandidateLemmas.{IsFirstOf}
use Rattle.ics_zone.proofs.observed.Observed.first_by_offset.Given as goal

abbrev pub invariant-loop-offset : goal.invariant-loop-offset
invariant-loop-offset l = record {
  first : IsFirstOf (zone_offset l.fn.self.said.items) l.fn.seconds l.offsets l.offset-index l.first;
  hint : IsOnsetOf l.fn.self.said.items l.hint;
}
