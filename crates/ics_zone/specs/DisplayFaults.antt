-- The names of the faults of a display zone's text.
use Rattle.std.specs.Prelude.{ℕ, List, codes}
use Rattle.ics_zone.specs.declared.display_fault.DisplayFault.{DisplayFault}
use Rattle.ics_zone.specs.declared.display_fault.DisplayFault.TheVariants.{BadZone, Memory}

abbrev pub display_fault_name : DisplayFault → List ℕ
display_fault_name BadZone = codes "BadZone"
display_fault_name Memory = codes "Memory"
