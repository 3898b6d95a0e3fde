-- The names of the faults, as they are printed.
use Rattle.std.specs.Prelude.{ℕ, List, codes}
use Rattle.khal_ports.specs.declared.fault.SourceFault.{SourceFault}
use Rattle.khal_ports.specs.declared.fault.SourceFault.TheVariants as source
use Rattle.khal_ports.specs.declared.fault.SinkFault.{SinkFault}
use Rattle.khal_ports.specs.declared.fault.SinkFault.TheVariants as sink
use Rattle.khal_ports.specs.declared.fault.RunFault.{RunFault}
use Rattle.khal_ports.specs.declared.fault.RunFault.TheVariants as run

abbrev pub source_fault_name : SourceFault → List ℕ
source_fault_name source.Device = codes "Device"
source_fault_name source.TooLarge = codes "TooLarge"
source_fault_name source.Memory = codes "Memory"

abbrev pub sink_fault_name : SinkFault → List ℕ
sink_fault_name sink.Device = codes "Device"
sink_fault_name sink.Memory = codes "Memory"

abbrev pub run_fault_name : RunFault → List ℕ
run_fault_name run.WriteFault = codes "WriteFault"
run_fault_name run.Memory = codes "Memory"
