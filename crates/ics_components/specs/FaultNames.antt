-- The names of faults, as they are printed.
use Rattle.std.specs.Prelude.{ℕ, List, codes}
use Rattle.ics_components.specs.declared.fault.FaultKind.{FaultKind}
use Rattle.ics_components.specs.declared.fault.FaultKind.TheVariants as kind
use Rattle.ics_components.specs.declared.fault.FileFault.{FileFault}
use Rattle.ics_components.specs.declared.fault.FileFault.TheVariants as fault

abbrev pub kind_name : FaultKind → List ℕ
kind_name kind.BadLine = codes "BadLine"
kind_name kind.BadFold = codes "BadFold"
kind_name kind.BadStamp = codes "BadStamp"
kind_name kind.BadDuration = codes "BadDuration"
kind_name kind.BadOffset = codes "BadOffset"
kind_name kind.BadRule = codes "BadRule"
kind_name kind.YearRange = codes "YearRange"
kind_name kind.NumberTooLarge = codes "NumberTooLarge"
kind_name kind.NoObservance = codes "NoObservance"
kind_name kind.ObservanceField = codes "ObservanceField"
kind_name kind.ZoneRule = codes "ZoneRule"
kind_name kind.NotCalendar = codes "NotCalendar"
kind_name kind.BadNesting = codes "BadNesting"
kind_name kind.TooDeep = codes "TooDeep"
kind_name kind.MissingUid = codes "MissingUid"
kind_name kind.MissingStart = codes "MissingStart"
kind_name kind.Repeated = codes "Repeated"
kind_name kind.BadEnd = codes "BadEnd"
kind_name kind.UnknownZone = codes "UnknownZone"
kind_name kind.ThisAndFuture = codes "ThisAndFuture"
kind_name kind.Exrule = codes "Exrule"
kind_name kind.OldVersion = codes "OldVersion"
kind_name kind.BadZoneFile = codes "BadZoneFile"

abbrev pub file_fault_name : FileFault → List ℕ
file_fault_name fault.Memory = codes "Memory"
file_fault_name (fault.At line kind) = kind_name kind
