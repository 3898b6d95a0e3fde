-- Why there is no listing, and what the caller is told.
use Rattle.std.specs.Prelude.{◌≡◌, ◌⊎◌, ℕ, List, Err, codes, string_bytes}
use Rattle.khal_list.specs.RequestFaults.{request_fault_name}
use Rattle.khal_list.specs.declared.request_fault.RequestFault.{RequestFault}
use Rattle.khal_list.specs.declared.request_fault.RequestFault.TheVariants as request
use Rattle.khal_list_c.specs.Asked.{RequestBy}
use Rattle.khal_list_c.specs.Given.{Given, HasNoText, names_of}
use Rattle.khal_list_c.specs.Handed.{IsHanded}
use Rattle.khal_list_c.specs.declared.given.GivenFault.{GivenFault}
use Rattle.khal_list_c.specs.declared.given.GivenFault.TheVariants as given
use Rattle.khal_list_c.specs.declared.listing.KhalListed.{KhalListed}
use Rattle.khal_list_c.specs.declared.listing.ListingFault.{ListingFault}
use Rattle.khal_list_c.specs.declared.listing.ListingFault.TheVariants as fault

-- a word or the name of a file is not UTF-8
abbrev pub IsGivenFault : Given → GivenFault → Type 0
IsGivenFault g given.NotText = HasNoText g.words ⊎ HasNoText (names_of g.files)
IsGivenFault g given.Memory = Unit {0}

-- a fault of the words is that of the request that they are to be
abbrev pub IsRefusal : Given → ListingFault → Type 0
IsRefusal g (fault.Request f) = RequestBy g.zone_file g.words g.now (Err f)
IsRefusal g (fault.Given f) = IsGivenFault g f
IsRefusal g fault.Memory = Unit {0}

abbrev pub request_status : RequestFault → ℕ
request_status request.Memory = 3
request_status f = 2

abbrev pub given_status : GivenFault → ℕ
given_status given.NotText = 4
given_status given.Memory = 3

-- the number that C is told
abbrev pub fault_status : ListingFault → ℕ
fault_status (fault.Request f) = request_status f
fault_status (fault.Given f) = given_status f
fault_status fault.Memory = 3

abbrev pub request_text : RequestFault → List ℕ
request_text (request.Usage text help) = string_bytes text
request_text f = request_fault_name f

abbrev pub given_text : GivenFault → List ℕ
given_text given.NotText = codes "NotText"
given_text given.Memory = codes "Memory"

-- the text that C is told: what clap says of words that it refuses, and else the name of the fault
abbrev pub fault_text : ListingFault → List ℕ
fault_text (fault.Request f) = request_text f
fault_text (fault.Given f) = given_text f
fault_text fault.Memory = codes "Memory"

-- there is no listing, and the caller is told why
pub record IsToldWhy (g : Given) (out out' err err' : List ℕ) (answer : KhalListed) : Type 0 where
  pub fault : ListingFault
  pub why : IsRefusal g fault
  pub status : answer.status ≡ fault_status fault
  pub none : answer.out_length ≡ 0
  pub same : out' ≡ out
  pub told : IsHanded (fault_text fault) err err' answer.err_length
