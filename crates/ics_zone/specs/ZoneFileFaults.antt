-- The faults of a zone file.
use Rattle.std.specs.Prelude.{ℕ, List, codes}
use Rattle.ics_zone.specs.declared.zone_file_fault.ZoneFileFault.{ZoneFileFault}
use Rattle.ics_zone.specs.declared.zone_file_fault.ZoneFileFault.TheVariants.{BadZoneFile, Memory}

abbrev pub zone_file_fault_name : ZoneFileFault → List ℕ
zone_file_fault_name BadZoneFile = codes "BadZoneFile"
zone_file_fault_name Memory = codes "Memory"
