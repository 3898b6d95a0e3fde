-- The names of the faults of a zone's observances.
use Rattle.std.specs.Prelude.{ℕ, List, codes}
use Rattle.ics_zone.specs.declared.zone_fault.ZoneFault.{ZoneFault}
use Rattle.ics_zone.specs.declared.zone_fault.ZoneFault.TheVariants.{NoObservance, ZoneRule, Memory}

abbrev pub zone_fault_name : ZoneFault → List ℕ
zone_fault_name NoObservance = codes "NoObservance"
zone_fault_name ZoneRule = codes "ZoneRule"
zone_fault_name Memory = codes "Memory"
