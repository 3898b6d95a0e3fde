-- Why the program ends before its end: its exit status, and its name.
use Rattle.std.specs.Prelude.{◌≡◌, ◌⊎◌, ℕ, List, codes, if◌then◌else◌}
use Rattle.khal_list.specs.RequestFaults.{request_fault_name}
use Rattle.khal_list.specs.declared.request_fault.RequestFault.{RequestFault}
use Rattle.khal_list.specs.declared.request_fault.RequestFault.TheVariants.{Usage, BadZone, BadWindow, BadToken, BadFormat}
use Rattle.khal_list.specs.declared.request_fault.RequestFault.TheVariants as request
use Rattle.khal_list_cli.specs.declared.failure.Failure.{Failure}
use Rattle.khal_list_cli.specs.declared.failure.Failure.TheVariants.{Request, Words, Read, Write, Memory}

-- 2 for words that are refused, but 0 where they ask for help
abbrev pub request_code : RequestFault → ℕ
request_code (Usage text help) = if help then 0 else 2
request_code BadZone = 2
request_code BadWindow = 2
request_code BadToken = 2
request_code BadFormat = 2
request_code request.Memory = 3

abbrev pub failure_code : Failure → ℕ
failure_code (Request fault) = request_code fault
failure_code Words = 2
failure_code Read = 3
failure_code Write = 3
failure_code Memory = 3

-- the name on standard error, where no usage text stands
abbrev pub failure_name : Failure → List ℕ
failure_name (Request fault) = request_fault_name fault
failure_name Words = codes "Usage"
failure_name Read = codes "ReadFault"
failure_name Write = codes "WriteFault"
failure_name Memory = codes "Memory"

-- the status once it is reported: its own, or that of a failed output if help was not written
abbrev pub IsReported : Failure → ℕ → Type 0
IsReported failure status = (status ≡ failure_code failure) ⊎ ((failure_code failure ≡ 0) × (status ≡ failure_code Write))
