-- Why words are not a request: the names of the faults, and the fault of a refusal by clap.
use Rattle.std.specs.Prelude.{◌≡◌, ◌≢◌, ◌↔◌, ℕ, List, IsTrue, codes}
use Rattle.clap.specs.declared.error.kind.ErrorKind.{ErrorKind}
use Rattle.clap.specs.declared.error.kind.ErrorKind.TheVariants.{DisplayHelp, OutOfMemory}
use Rattle.ics_listing.specs.declared.token.TokenFault.{TokenFault}
use Rattle.ics_listing.specs.declared.token.TokenFault.TheVariants as token
use Rattle.khal_words.specs.declared.format.FormatFault.{FormatFault}
use Rattle.khal_words.specs.declared.format.FormatFault.TheVariants as format
use Rattle.khal_list.specs.declared.request_fault.RequestFault.{RequestFault}
use Rattle.khal_list.specs.declared.request_fault.RequestFault.TheVariants.{Usage, BadZone, BadWindow, BadToken, BadFormat, Memory}

abbrev pub request_fault_name : RequestFault → List ℕ
request_fault_name (Usage text help) = codes "Usage"
request_fault_name BadZone = codes "BadZone"
request_fault_name BadWindow = codes "BadWindow"
request_fault_name BadToken = codes "BadToken"
request_fault_name BadFormat = codes "BadFormat"
request_fault_name Memory = codes "Memory"

-- the fault of a refusal of this kind: usage, with help or not, or memory
abbrev pub IsFaultOf : ErrorKind → RequestFault → Type 0
IsFaultOf kind (Usage text help) = (kind ≢ OutOfMemory) × (IsTrue help ↔ (kind ≡ DisplayHelp))
IsFaultOf kind BadZone = ⊥
IsFaultOf kind BadWindow = ⊥
IsFaultOf kind BadToken = ⊥
IsFaultOf kind BadFormat = ⊥
IsFaultOf kind Memory = Unit {0}

-- the fault of a text that is not a token
abbrev pub token_fault : TokenFault → RequestFault
token_fault token.BadToken = BadToken
token_fault token.Memory = Memory

-- the fault of a text that is not a format
abbrev pub format_fault : FormatFault → RequestFault
format_fault format.BadFormat = BadFormat
format_fault format.Memory = Memory
